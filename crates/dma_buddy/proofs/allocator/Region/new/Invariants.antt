use Rattle.dma_buddy.proofs.Splits.{Opened}
use Rattle.dma_buddy.proofs.allocator.Region.new.Given as goal

abbrev pub invariant-loop-unit : goal.invariant-loop-unit
invariant-loop-unit l = Opened l.chunks l.base l.units l.unit
