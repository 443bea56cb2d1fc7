use Rattle.block_words.proofs.ReportedRuns.{runs-report}
use Rattle.block_words.proofs.reported_laws.runs_report.Goals as goal

pub returns : goal.returns
returns c = runs-report
