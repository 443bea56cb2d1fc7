use Rattle.std.proofs.Common.{◌∙◌, sym}
use Rattle.dma_buddy.proofs.Places.{upper-room}
use Rattle.dma_buddy.proofs.buddies.Chunk.buddy.Goals as goal

pub overflow_sub-result : goal.overflow_sub-result
overflow_sub-result c = upper-room c.args.self c.requires.chunk (sym c.is_lower.ensures ∙ c.if-is_lower.false)
