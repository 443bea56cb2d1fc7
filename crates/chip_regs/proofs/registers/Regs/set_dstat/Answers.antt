use Rattle.std.proofs.Common.{refl}
use Rattle.chip_regs.proofs.Flags.{flag_test}
use Rattle.chip_regs.proofs.registers.Regs.set_dstat.Goals as goal

pub returns : goal.returns
returns c =
    let b = c.args.bits.0 in
    rw (c.contains-self.ensures tt, c.contains-self-2.ensures tt, c.contains-self-3.ensures tt)
    (rw (flag_test b 5, flag_test b 2, flag_test b 0) refl)
