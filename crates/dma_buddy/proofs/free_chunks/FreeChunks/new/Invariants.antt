use Rattle.std.proofs.Common.{◌≡◌, ℕ, ◌-◌, ◌*◌, ◌^◌, ◌<◌, [], false, length, get_or, replicate}
use Rattle.dma_buddy.proofs.free_chunks.FreeChunks.new.Given as goal

abbrev pub invariant-loop-order : goal.invariant-loop-order
invariant-loop-order l = (length l.sets.items ≡ l.order) × ((k : ℕ) → k < l.order → get_or l.sets.items k [] ≡ replicate (l.units * 2 ^ (7 - k)) false)
