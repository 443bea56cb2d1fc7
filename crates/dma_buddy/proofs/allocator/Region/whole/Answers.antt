use Rattle.dma_buddy.proofs.FreeBytes.{whole-test}
use Rattle.dma_buddy.proofs.allocator.Region.whole.Goals as goal

pub returns-clause-opening : goal.returns-clause-opening
returns-clause-opening c = rw (← c.self.view_is) (whole-test c.self.inside.chunks c.self.invariant.0 c.self.inside.bytes c.units.result c.self.invariant.1 c.units.ensures)
