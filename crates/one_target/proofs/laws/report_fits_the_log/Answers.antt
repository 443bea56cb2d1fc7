use Rattle.one_target.proofs.ReportFit.{reported}
use Rattle.one_target.proofs.laws.report_fits_the_log.Goals as goal

pub returns : goal.returns
returns c = reported
