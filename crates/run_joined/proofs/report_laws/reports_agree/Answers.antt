use Rattle.run_joined.proofs.Reports.{reports-agree}
use Rattle.run_joined.proofs.report_laws.reports_agree.Goals as goal

pub returns : goal.returns
returns c = reports-agree
