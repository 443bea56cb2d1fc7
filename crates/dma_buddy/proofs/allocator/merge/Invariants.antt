use Rattle.std.proofs.Common.{◌-◌}
use Rattle.dma_buddy.specs.Marks.{Merged}
use Rattle.dma_buddy.proofs.allocator.merge.Given as goal

abbrev pub invariant-loop-whole : goal.invariant-loop-whole
invariant-loop-whole l = Merged l.initial.chunks l.fn.c l.whole l.chunks

abbrev pub decreases-loop-whole : goal.decreases-loop-whole
decreases-loop-whole l = 65536 - l.whole.size
