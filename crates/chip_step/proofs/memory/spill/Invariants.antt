use Rattle.std.proofs.Common.{◌≡◌, ◌+◌, ℕ, length}
use Rattle.chip_step.specs.Memory.{stored}
use Rattle.chip_step.proofs.memory.spill.Given as goal

abbrev pub invariant-loop-k : goal.invariant-loop-k
invariant-loop-k l = record { size : length l.words ≡ length l.fn.words; rest : (n : ℕ) → l.k + n ≡ l.count → stored n (l.register + l.k) l.words (l.at + l.k) l.regs ≡ stored l.count l.register l.fn.words l.at l.regs }
