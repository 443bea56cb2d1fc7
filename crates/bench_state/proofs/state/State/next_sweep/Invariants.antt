use Rattle.std.proofs.Common.{◌≡◌, ◌<◌, ℕ, false}
use Rattle.desk_law.specs.Desk.{ticket}
use Rattle.world_law.specs.Stops.{to_sweep}
use Rattle.bench_state.proofs.state.State.next_sweep.Given as goal

abbrev pub invariant-loop-t : goal.invariant-loop-t
invariant-loop-t l = (k : ℕ) → k < l.t → to_sweep l.self.world (ticket l.self.world.desk k) ≡ false
