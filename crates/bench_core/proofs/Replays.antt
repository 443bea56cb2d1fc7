-- A list with one more step, in the world after it.
use Rattle.std.proofs.Common.{◌≡◌, List, [], ◌∷◌, ◌++◌, refl, sym, ap, subst, ◌∙◌}
use Rattle.rig_types.specs.declared.step.Entry.{Entry}
use Rattle.world_law.specs.World.{BenchSetting, World}
use Rattle.world_law.specs.Opening.{opened}
use Rattle.world_law.specs.Runs.{Moment, Steps, last, entries}
use Rattle.world_law.proofs.RunLaws.{goes_on}
use Rattle.bench_core.specs.Histories.{IsReplayed}

last-of : (w : World) (ms : List Moment) (m : Moment) → last w (ms ++ m ∷ []) ≡ m.after
last-of w [] m = refl
last-of w (x ∷ xs) m = last-of x.after xs m

entries-of : (ms : List Moment) (m : Moment) → entries (ms ++ m ∷ []) ≡ entries ms ++ m.entry ∷ []
entries-of [] m = refl
entries-of (x ∷ xs) m = ap (λ (es : List Entry). x.entry ∷ es) (entries-of xs m)

pub replays_on : (g : BenchSetting) (es : List Entry) (w : World) (m : Moment) → IsReplayed g es w → Steps g w m → IsReplayed g (es ++ m.entry ∷ []) m.after
replays_on g es w m h s = record {
  moments = h.moments ++ m ∷ [];
  run = goes_on g (opened g) h.moments m h.run (subst (λ (x : World). Steps g x m) (sym h.world) s);
  are = entries-of h.moments m ∙ ap (λ (xs : List Entry). xs ++ m.entry ∷ []) h.are;
  world = last-of (opened g) h.moments m;
}

pub replays_none : (g : BenchSetting) → IsReplayed g [] (opened g)
replays_none g = record { moments = []; run = tt; are = refl; world = refl }
