use Rattle.std.proofs.Common.{◌≡◌, ◌+◌, ℕ, List, length, nat_lt, false}
use Rattle.chip_step.specs.Bytes.{TakesIn}
use Rattle.chip_step.proofs.carrying.bytes_in.Given as goal

-- what goes on from here goes on from the start
abbrev pub invariant-loop-i : goal.invariant-loop-i
invariant-loop-i g l = record {
  size : length l.words ≡ length l.fn.words;
  goes_on : (n left : ℕ) (memory : List ℕ) (bus' : _) → l.i + n ≡ l.count → TakesIn g.B.Bus.moves l.message (nat_lt 0 l.i) n l.words (l.at + l.i) l.bus left memory bus' → TakesIn g.B.Bus.moves l.message false l.count l.fn.words l.at l.fn.bus left memory bus';
}
