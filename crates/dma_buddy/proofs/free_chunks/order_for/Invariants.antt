use Rattle.std.proofs.Common.{ℕ, ◌-◌, ◌*◌, ◌^◌, ◌<◌}
use Rattle.dma_buddy.proofs.free_chunks.order_for.Given as goal

-- every size before is too small
abbrev pub invariant-loop-order : goal.invariant-loop-order
invariant-loop-order l = (l.order < 8) × ((k : ℕ) → k < l.order → 512 * 2 ^ k < l.len)

abbrev pub decreases-loop-order : goal.decreases-loop-order
decreases-loop-order l = 8 - l.order
