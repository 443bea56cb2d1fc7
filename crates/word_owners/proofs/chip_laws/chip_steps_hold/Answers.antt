use Rattle.word_owners.proofs.AllSteps.{chip_steps_hold}
use Rattle.word_owners.proofs.chip_laws.chip_steps_hold.Goals as goal

pub returns : goal.returns
returns c = chip_steps_hold
