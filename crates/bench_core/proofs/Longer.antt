-- A bench stays one where a submitter gets one more line.
use Rattle.std.proofs.Common.{◌≡◌, ◌<◌, ℕ, List, length, Result, Ok, Err, OnOk, OnErr, sym, subst}
use Rattle.rig_types.specs.declared.commands.Command.{Command}
use Rattle.rig_types.specs.declared.step.Entry.{Entry}
use Rattle.world_law.specs.World.{BenchSetting, World}
use Rattle.world_law.specs.Runs.{last}
use Rattle.world_law.specs.Laws.{longer}
use Rattle.world_law.proofs.MoreLines.{opens_alike, extends}
use Rattle.bench_state.specs.States.{BenchState}
use Rattle.bench_core.specs.Histories.{IsReplayed, IsBench}

pub replays_longer : (g : BenchSetting) (s : ℕ) (c : Command) (es : List Entry) (w : World) → s < length g.submitters → IsReplayed g es w → IsReplayed (longer g s c) es w
replays_longer g s c es w there h = record {
  moments = h.moments;
  run = extends g s c h.moments there h.run;
  are = h.are;
  world = subst (λ (x : World). last x h.moments ≡ w) (sym (opens_alike g s c)) h.world;
}

bench-longer : (g : BenchSetting) (s : ℕ) (c : Command) (es : List Entry) (w : World) (capacity : ℕ) → s < length g.submitters → IsBench g es w capacity
    → IsBench (longer g s c) es w capacity
bench-longer g s c es w capacity there h = record {
  replayed = replays_longer g s c es w there h.replayed;
  within = h.within;
  limit = h.limit;
  room = h.room;
}

-- the bench after it, whether there was memory or not
pub bench_extended : {A E : Type 0} (r : Result A E) (old new : BenchState) (s : ℕ) (c : Command) (es : List Entry) (capacity : ℕ) → s < length old.setting.submitters
    → IsBench old.setting es old.world capacity → OnOk r (new.setting ≡ longer old.setting s c) → OnErr r (new ≡ old) → new.world ≡ old.world
    → IsBench new.setting es new.world capacity
bench_extended r old new s c es capacity there b ok err same = by r ok err
  where
    by : {A E : Type 0} (r : Result A E) → OnOk r (new.setting ≡ longer old.setting s c) → OnErr r (new ≡ old) → IsBench new.setting es new.world capacity
    by (Ok x) e f =
        subst (λ (g : BenchSetting). IsBench g es new.world capacity) (sym e)
        (subst (λ (w : World). IsBench (longer old.setting s c) es w capacity) (sym same) (bench-longer old.setting s c es old.world capacity there b))
    by (Err x) e f = subst (λ (x : BenchState). IsBench x.setting es x.world capacity) (sym f) b
