use Rattle.std.proofs.Common.{◌≡◌, ◌+◌, ℕ}
use Rattle.chip_step.specs.Memory.{filled}
use Rattle.chip_step.proofs.memory.fill.Given as goal

abbrev pub invariant-loop-i : goal.invariant-loop-i
invariant-loop-i l = record { rest : (n : ℕ) → l.i + n ≡ l.count → filled n (l.register + l.i) l.words (l.at + l.i) l.regs ≡ filled l.count l.register l.words l.at l.fn.regs }
