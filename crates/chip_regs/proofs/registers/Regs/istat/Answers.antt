use Rattle.chip_regs.proofs.Flags.{istat_flags}
use Rattle.chip_regs.proofs.registers.Regs.istat.Goals as goal

pub returns : goal.returns
returns c =
    let r = c.args.self.now in
    rw (c.union-4.ensures tt, c.union-3.ensures tt, c.union-2.ensures tt, c.union.ensures tt)
    (rw (c.flag_if.ensures tt, c.flag_if-2.ensures tt, c.flag_if-3.ensures tt, c.flag_if-4.ensures tt, c.flag_if-5.ensures tt)
    (istat_flags r.sigp r.con r.intf r.sip r.dip))
