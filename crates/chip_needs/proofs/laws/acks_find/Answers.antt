use Rattle.chip_needs.proofs.Ordinary.{acks-find}
use Rattle.chip_needs.proofs.laws.acks_find.Goals as goal

pub returns : goal.returns
returns c = acks-find
