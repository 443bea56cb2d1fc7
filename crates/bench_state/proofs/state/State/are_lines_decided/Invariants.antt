use Rattle.std.proofs.Common.{◌≡◌, ◌<◌, ◌==◌, ℕ, true, length}
use Rattle.world_law.specs.World.{commands_of, lines_of}
use Rattle.bench_state.proofs.state.State.are_lines_decided.Given as goal

abbrev pub invariant-loop-s : goal.invariant-loop-s
invariant-loop-s l = (k : ℕ) → k < l.s → (length (commands_of l.self.setting k) == length (lines_of l.self.world k)) ≡ true
