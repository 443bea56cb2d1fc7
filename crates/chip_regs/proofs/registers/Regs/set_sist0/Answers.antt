use Rattle.std.proofs.Common.{refl}
use Rattle.chip_regs.proofs.Flags.{flag_test}
use Rattle.chip_regs.proofs.registers.Regs.set_sist0.Goals as goal

pub returns : goal.returns
returns c =
    let b = c.args.bits.0 in
    rw (c.contains-self.ensures tt, c.contains-self-2.ensures tt, c.contains-self-3.ensures tt)
    (rw (flag_test b 7, flag_test b 2, flag_test b 1) refl)
