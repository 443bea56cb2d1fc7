use Rattle.std.proofs.Common.{◌-◌, length}
use Rattle.dma_buddy.proofs.allocator.Region.+take_each.Given as goal

abbrev pub decreases-take_each : goal.decreases-take_each
decreases-take_each l = length l.lens.now - l.from
