use Rattle.block_words.proofs.EndingSteps.{joined-steps-report}
use Rattle.block_words.proofs.reported_laws.joined_steps_report.Goals as goal

pub returns : goal.returns
returns c = joined-steps-report
