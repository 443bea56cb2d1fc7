use Rattle.std.proofs.Common.{◌≡◌, ℕ, ◌<◌, ◌≤◌, false}
use Rattle.dma_buddy.specs.Marks.{flag_at}
use Rattle.dma_buddy.proofs.free_chunks.FreeChunks.best.Given as goal

abbrev pub invariant-loop-order : goal.invariant-loop-order
invariant-loop-order l = (k : ℕ) → l.first ≤ k → k < l.order → (i : ℕ) → flag_at l.self-inside.sets.items k i ≡ false
