use Rattle.std.proofs.Common.{◌≤◌}
use Rattle.dma_buddy.specs.Chunks.{IsChunkSize}
use Rattle.dma_buddy.specs.Marks.{Splits}
use Rattle.dma_buddy.proofs.allocator.split.Given as goal

abbrev pub invariant-loop-half : goal.invariant-loop-half
invariant-loop-half l = IsChunkSize l.half × (l.size ≤ l.half) × (l.half ≤ l.whole.size) × Splits l.initial.chunks l.whole l.half l.chunks

abbrev pub decreases-loop-half : goal.decreases-loop-half
decreases-loop-half l = l.half
