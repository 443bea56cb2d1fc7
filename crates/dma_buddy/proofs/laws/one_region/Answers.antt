use Rattle.dma_buddy.proofs.OneRegion.{one-take, one-take-all, one-give}
use Rattle.dma_buddy.proofs.laws.one_region.Goals as goal

pub returns : goal.returns
returns c = record { take = one-take; take_all = one-take-all; give = one-give }
