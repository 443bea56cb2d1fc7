use Rattle.run_joined.proofs.ChipSteps.{chip-leaves-desk}
use Rattle.run_joined.proofs.laws.chip_leaves_desk.Goals as goal

pub returns : goal.returns
returns c = chip-leaves-desk
