use Rattle.block_words.proofs.EndingSteps.{takes-report}
use Rattle.block_words.proofs.reported_laws.takes_report.Goals as goal

pub returns : goal.returns
returns c = takes-report
