use Rattle.chip_needs.proofs.Sending.{rogue-steps-join}
use Rattle.chip_needs.proofs.laws.rogue_steps_join.Goals as goal

pub returns : goal.returns
returns c = rogue-steps-join
