use Rattle.std.proofs.Common.{◌≡◌, ℕ, ◌<◌, get_or}
use Rattle.std.specs.Prelude.{bit_and}
use Rattle.byte_set.proofs.ByteSet.least.Given as goal

abbrev pub invariant-loop-w : goal.invariant-loop-w
invariant-loop-w l = (j : ℕ) → j < l.w → bit_and (get_or l.self-inside.words j 0) l.mask ≡ 0
