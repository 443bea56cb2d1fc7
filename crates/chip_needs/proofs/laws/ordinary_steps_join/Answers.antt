use Rattle.chip_needs.proofs.Ordinary.{ordinary-steps-join}
use Rattle.chip_needs.proofs.laws.ordinary_steps_join.Goals as goal

pub returns : goal.returns
returns c = ordinary-steps-join
