use Rattle.std.proofs.Common.{◌≡◌, ◌+◌, ℕ, length}
use Rattle.chip_step.specs.Memory.{copied}
use Rattle.chip_step.proofs.memory.copy_up.Given as goal

abbrev pub invariant-loop-i : goal.invariant-loop-i
invariant-loop-i l = record { size : length l.words ≡ length l.fn.words; rest : (n : ℕ) → l.i + n ≡ l.count → copied n l.words (l.source + l.i) (l.target + l.i) ≡ copied l.count l.fn.words l.source l.target }
