use Rattle.std.proofs.Common.{subst, sym, refl, arith}
use Rattle.std.specs.Int.{w32, trailing_zeros}
use Rattle.dma_buddy.specs.Regions.{Space, IsChunkOf}
use Rattle.dma_buddy.specs.Marks.{space_of}
use Rattle.dma_buddy.proofs.SizeFlags.{size-zeros}
use Rattle.dma_buddy.proofs.Places.{placed}
use Rattle.dma_buddy.proofs.free_chunks.FreeChunks.place.Goals as goal

pub overflow_sub-order : goal.overflow_sub-order
overflow_sub-order c =
    omega (arith, size-zeros 512 (0, omega arith, refl), size-zeros c.args.c.size c.requires.chunk.size)

pub returns : goal.returns
returns c =
    let h : IsChunkOf (space_of c.self.inside.base c.self.inside.units c.self.inside.sets.items) c.args.c = subst (λ (s : Space). IsChunkOf s c.args.c) (sym c.self.view_is) c.requires in
    rw (← c.self.view_is)
    (placed (space_of c.self.inside.base c.self.inside.units c.self.inside.sets.items) c.args.c (trailing_zeros w32 c.args.c.size) (trailing_zeros w32 512) c.self.invariant.aligned h (size-zeros c.args.c.size h.chunk.size) (size-zeros 512 (0, omega arith, refl)))
