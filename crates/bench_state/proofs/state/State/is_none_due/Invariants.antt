use Rattle.std.proofs.Common.{◌≡◌, ◌<◌, ℕ}
use Rattle.desk_law.specs.Desk.{due}
use Rattle.bench_state.proofs.state.State.is_none_due.Given as goal

abbrev pub invariant-loop-caller : goal.invariant-loop-caller
invariant-loop-caller l = (k : ℕ) → k < l.caller → due l.self.world.desk k ≡ 0
