-- The buffers in every world of a run.
use Rattle.std.proofs.Common.{ℕ, List, subst}
use Rattle.rig_types.specs.declared.rig.Unit.{Unit as RigUnit}
use Rattle.world_law.specs.Opening.{opened}
use Rattle.world_law.specs.Runs.{last}
use Rattle.world_law.specs.World.{World}
use Rattle.word_owners.specs.BenchSteps.{IsOwned}
use Rattle.word_owners.specs.BufferRuns.{KeepsBuffers, RunsKeepBuffers}
use Rattle.word_owners.specs.Points.{Point}
use Rattle.word_owners.specs.Holds.{Holds, Running}
use Rattle.word_owners.proofs.BufferWrites.{only_data_moves_write}
use Rattle.word_owners.proofs.Buffers.{pointers_stay, data_stay, buffers_apart}
use Rattle.word_owners.proofs.RunningChip.{running}
use Rattle.word_owners.proofs.Worlds.{words_are_owned}

owned-keeps : (version : ℕ) (units : List RigUnit) (w : World) → IsOwned version units w → KeepsBuffers w
owned-keeps version units w o = record {
  pointers = λ t l. pointers_stay version units o.spot o.counts w t o.holds l;
  apart = λ t u a l m ne x y. buffers_apart version units o.spot o.counts w t u a o.holds l m ne x y;
  steps = λ new word answer a runs run l ne.
      let k = running version units o.spot o.counts w runs o.holds in
      let m = only_data_moves_write version units k.0 o.counts w new word answer a run k.1 l ne in
      (m.0, m.1, data_stay version units m.0 m.1 o.counts w new word answer run (subst (λ (q : Point). Holds version units (Running q) o.counts w) m.2 k.1));
}

pub runs_keep_buffers : RunsKeepBuffers
runs_keep_buffers g setting bytes ms r = owned-keeps g.version g.units (last (opened g) ms) (words_are_owned g setting bytes ms r)
