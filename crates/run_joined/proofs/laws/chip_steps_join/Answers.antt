use Rattle.run_joined.proofs.ChipCalls.{chip-steps-join}
use Rattle.run_joined.proofs.laws.chip_steps_join.Goals as goal

pub returns : goal.returns
returns c = chip-steps-join
