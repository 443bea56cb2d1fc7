use Rattle.chip_needs.proofs.AfterSelection.{selections-are-greeted}
use Rattle.chip_needs.proofs.laws.selections_are_greeted.Goals as goal

pub returns : goal.returns
returns c = selections-are-greeted
