use Rattle.std.proofs.Common.{arith}
use Rattle.std.proofs.lemmas.Grind.{common_steps}
use Rattle.one_target.specs.Reporting.{report_in}
use Rattle.one_target.proofs.ReportFit.{reported, memory-size}
use Rattle.sym_top.proofs.OneTexts.{one-text}
use Rattle.sym_top.proofs.one.one.Goals as goal

pub returns-in_err-bus : goal.returns-in_err-bus
returns-in_err-bus c = grind (arith, common_steps)

pub returns-in_err-end : goal.returns-in_err-end
returns-in_err-end c = grind (arith, common_steps)

pub report_of-requires : goal.report_of-requires
report_of-requires c = memory-size c.args.lba (omega arith) c.in_ok-bus.bus c.in_ok-bus.ensures.opened _ c.in_ok-end.ensures.ran

pub returns-in_err-report : goal.returns-in_err-report
returns-in_err-report c = grind (arith, common_steps)

pub returns : goal.returns
returns c =
    one-text c.args.lba c.report_lines.result (report_in c.in_ok-end.end.words) c.in_ok-report.report (reported c.args.lba (omega arith) c.in_ok-bus.bus c.in_ok-bus.ensures.opened _ c.in_ok-end.ensures.ran) c.in_ok-report.ensures
    c.report_lines.ensures
