use Rattle.std.proofs.Common.{arith}
use Rattle.dma_buddy.proofs.FreeBytes.{most-free}
use Rattle.dma_buddy.proofs.allocator.Region.free_bytes.Goals as goal

pub returns-clause-most : goal.returns-clause-most
returns-clause-most c = rw (← c.self.view_is) (omega (arith, c.self.invariant.1, most-free c.self.inside.chunks c.self.invariant.0))
