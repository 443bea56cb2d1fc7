-- The bench as the machine of a lock: its answers are those that its list allows.
use Rattle.std.proofs.Common.{arith, ◌≡◌, ℕ, Bool, true, false, List, [], ◌∷◌, ◌++◌, length, refl, sym, ap, subst}
use Rattle.rig_types.specs.declared.step.Step.{Step}
use Rattle.rig_types.specs.declared.step.Entry.{Entry}
use Rattle.bench_lock.specs.Log.{added}
use Rattle.world_law.specs.declared.reply.Reply.{Reply}
use Rattle.world_law.specs.World.{BenchSetting, World}
use Rattle.world_law.specs.Answers.{Answers}
use Rattle.seat_law.specs.Worlds.{pair_of, pairs_of, Allows}
use Rattle.seat_law.proofs.ListWorlds.{leads_as}
use Rattle.bench_core.specs.Histories.{IsReplayed, entered}

pairs-length : (es : List Entry) → length (pairs_of es) ≡ length es
pairs-length [] = refl
pairs-length (e ∷ es) = omega (arith, pairs-length es)

pub allows : (g : BenchSetting) (es : List Entry) (old new : World) (caller : ℕ) (s : Step) (a : Reply) → IsReplayed g es old → Answers g (length es) old caller s a new → Allows g (pairs_of es) caller s a
allows g es old new caller s a r h = record {
  old = old;
  new = new;
  leads = leads_as g es old r.moments r.run r.are r.world;
  answers = subst (λ (n : ℕ). Answers g n old caller s a new) (sym (pairs-length es)) h;
}

pairs-more : (es : List Entry) (e : Entry) → pairs_of (es ++ e ∷ []) ≡ pairs_of es ++ pair_of e ∷ []
pairs-more [] e = refl
pairs-more (x ∷ xs) e = ap (λ (ps : List (ℕ × Step)). pair_of x ∷ ps) (pairs-more xs e)

pub entered_pairs : (b : Bool) (es : List Entry) (e : Entry) → pairs_of (entered b es e) ≡ added (pairs_of es) b (pair_of e)
entered_pairs true es e = pairs-more es e
entered_pairs false es e = refl
