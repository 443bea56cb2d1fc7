use Rattle.dma_buddy.proofs.Places.{lower-test}
use Rattle.dma_buddy.proofs.buddies.Chunk.is_lower.Goals as goal

pub returns : goal.returns
returns c = lower-test c.args.self c.requires
