use Rattle.std.proofs.Common.{refl}
use Rattle.chip_regs.proofs.Flags.{flag_test}
use Rattle.chip_regs.proofs.registers.Regs.set_sist1.Goals as goal

pub returns : goal.returns
returns c =
    let b = c.args.bits.0 in
    rw (c.contains-self.ensures tt)
    (rw (flag_test b 2) refl)
