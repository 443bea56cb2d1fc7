use Rattle.std.proofs.Common.{◌≡◌, ◌+◌, ◌*◌, length}
use Rattle.host_map.specs.declared.TheConstants.{IDLE}
use Rattle.job_rings.specs.Rings.{next_slot}
use Rattle.opening_memory.specs.Tables.{written, spread}
use Rattle.opening_memory.proofs.lay_ring.Given as goal

abbrev pub invariant-loop-n : goal.invariant-loop-n
invariant-loop-n l = record {
  size : length l.words ≡ length l.fn.words;
  so_far : l.words ≡ written l.fn.words (spread l.ring 8 (λ n. IDLE) l.n);
}

abbrev pub invariant-loop-slot : goal.invariant-loop-slot
invariant-loop-slot l = record {
  size : length l.words ≡ length l.fn.words;
  so_far : l.words ≡ written (written l.fn.words (spread l.ring 8 (λ n. IDLE) 512)) (spread (l.ring + 4) 8 (λ n. next_slot l.ring (l.ring + 8 * n)) l.slot);
}
