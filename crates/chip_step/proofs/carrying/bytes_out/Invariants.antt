use Rattle.std.proofs.Common.{◌≡◌, ◌+◌, ℕ}
use Rattle.chip_step.specs.Bytes.{GoesOut}
use Rattle.chip_step.proofs.carrying.bytes_out.Given as goal

-- what goes on from here goes on from the start
abbrev pub invariant-loop-i : goal.invariant-loop-i
invariant-loop-i g l = (n left : ℕ) (bus' : _) → l.i + n ≡ l.count → GoesOut g.B.Bus.moves n l.words (l.at + l.i) l.bus left bus' → GoesOut g.B.Bus.moves l.count l.words l.at l.fn.bus left bus'
