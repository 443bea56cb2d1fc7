use Rattle.chip_regs.proofs.Flags.{dstat_flags}
use Rattle.chip_regs.proofs.registers.Regs.dstat.Goals as goal

pub returns : goal.returns
returns c =
    let r = c.args.self.now in
    rw (c.union-2.ensures tt, c.union.ensures tt)
    (rw (c.flag_if.ensures tt, c.flag_if-2.ensures tt, c.flag_if-3.ensures tt)
    (dstat_flags r.bf r.sir r.iid))
