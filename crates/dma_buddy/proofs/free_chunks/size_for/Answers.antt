use Rattle.std.proofs.Common.{ℕ, subst, sym}
use Rattle.dma_buddy.specs.Chunks.{IsSizeFor}
use Rattle.dma_buddy.proofs.Places.{size-word}
use Rattle.dma_buddy.proofs.free_chunks.size_for.Goals as goal

pub returns : goal.returns
returns c = subst (λ (size : ℕ). IsSizeFor c.args.len size) (sym (size-word c.order_for.result c.order_for.ensures.order)) c.order_for.ensures.size
