use Rattle.std.proofs.Common.{rules, refl, ◌/◌, ◌<◌, length}
use Rattle.byte_set.proofs.Bits.{bit_cleared}
use Rattle.byte_set.proofs.ByteSet.remove.Goals as goal

pub returns : goal.returns
returns c =
    let within : c.args.byte / 64 < length c.self.inside.words = search rules in
    rw (← c.self.view_is) (bit_cleared c.self.inside.words c.args.byte _ within refl)
