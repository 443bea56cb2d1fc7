use Rattle.chip_needs.proofs.MessageStep.{message-steps-join}
use Rattle.chip_needs.proofs.laws.message_steps_join.Goals as goal

pub returns : goal.returns
returns c = message-steps-join
