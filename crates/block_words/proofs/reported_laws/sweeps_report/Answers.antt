use Rattle.block_words.proofs.EndingSteps.{sweeps-report}
use Rattle.block_words.proofs.reported_laws.sweeps_report.Goals as goal

pub returns : goal.returns
returns c = sweeps-report
