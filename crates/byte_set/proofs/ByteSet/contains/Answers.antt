use Rattle.std.proofs.Common.{arith, ◌/◌, ◌%◌, get_or}
use Rattle.byte_set.proofs.Bits.{bit_test}
use Rattle.byte_set.proofs.ByteSet.contains.Goals as goal

pub returns : goal.returns
returns c = rw (← c.self.view_is) (bit_test (get_or c.self.inside.words (c.args.byte / 64) 0) (c.args.byte % 64) (omega arith))
