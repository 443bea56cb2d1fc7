use Rattle.chip_needs.proofs.ToldStatus.{statuses-are-told}
use Rattle.chip_needs.proofs.laws.statuses_are_told.Goals as goal

pub returns : goal.returns
returns c = statuses-are-told
