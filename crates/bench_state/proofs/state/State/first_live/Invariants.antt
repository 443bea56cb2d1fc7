use Rattle.std.proofs.Common.{◌≡◌}
use Rattle.bench_state.specs.Held.{live_before}
use Rattle.bench_state.proofs.state.State.first_live.Given as goal

abbrev pub invariant-loop-t : goal.invariant-loop-t
invariant-loop-t l = live_before l.t l.self.world.desk.tickets ≡ 0
