use Rattle.dma_buddy.specs.Regions.{AreOut}
use Rattle.dma_buddy.proofs.tests.takes_and_gives.Given as goal

abbrev pub invariant-steps : goal.invariant-steps
invariant-steps g l = AreOut l.region l.held.items
