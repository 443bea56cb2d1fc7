use Rattle.chip_needs.proofs.CommandStep.{command-steps-join}
use Rattle.chip_needs.proofs.laws.command_steps_join.Goals as goal

pub returns : goal.returns
returns c = command-steps-join
