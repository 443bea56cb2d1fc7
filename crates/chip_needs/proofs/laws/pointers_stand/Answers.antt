use Rattle.chip_needs.proofs.Ordinary.{pointers-stand}
use Rattle.chip_needs.proofs.laws.pointers_stand.Goals as goal

pub returns : goal.returns
returns c = pointers-stand
