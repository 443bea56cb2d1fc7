use Rattle.std.proofs.Common.{◌≡◌, List, length, ap, arith}
use Rattle.dma_buddy.specs.declared.buddies.Chunk.{Chunk}
use Rattle.dma_buddy.specs.Regions.{Space}
use Rattle.dma_buddy.proofs.Places.{empty-at-first}
use Rattle.dma_buddy.proofs.free_chunks.FreeChunks.new.Goals as goal

pub returns : goal.returns
returns c =
    let count : length c.loop-order.sets.items ≡ 8 = omega (arith, c.loop-order.invariant.0) in
    ap (λ (f : List Chunk). let s : Space = record { base = c.args.base; units = c.args.units; free = f } in s)
    (empty-at-first c.args.base c.args.units c.loop-order.sets.items c.requires.aligned c.requires.fits count (λ k l. c.loop-order.invariant.1 k (omega (arith, l))))
