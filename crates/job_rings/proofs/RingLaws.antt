-- What the calls do to the words of memory, and the numbers of slots.
use Rattle.std.proofs.Common.{◌≡◌, ℕ, ◌^◌, ◌<◌, List, length, ◌∙◌, arith, lit<}
use Rattle.bench_words.specs.Memory.{word_at, put_word}
use Rattle.bench_words.specs.Views.{Apart, Wrote}
use Rattle.bench_words.proofs.MemoryLaws.{length-put_word, wrote-put_word}
use Rattle.host_map.specs.declared.TheConstants.{IDLE, START_RING, DONE_RING}
use Rattle.host_map.specs.Places.{start_slot, done_slot}
use Rattle.job_rings.specs.Rings.{IsSlot, next_slot, started, Started, CountsSlots, StartsInRing}

-- a slot shares no byte with the one behind it
pub apart_from_next : (ring slot : ℕ) → IsSlot ring slot → Apart slot (next_slot ring slot)
apart_from_next ring slot is = omega (arith, is.from, is.below)

pub started_is : (m : List ℕ) (slot block : ℕ) → length m ≡ 0x400000 → IsSlot START_RING slot → block < 2 ^ 32 → Started (word_at m) (word_at (started m slot block)) slot block
started_is m slot block size is fits =
    let first : Wrote (word_at m) (word_at (put_word m (next_slot START_RING slot) IDLE)) (next_slot START_RING slot) IDLE =
    wrote-put_word m (next_slot START_RING slot) IDLE (omega (arith, is.from, is.below)) (lit< tt) in
    let second : Wrote (word_at (put_word m (next_slot START_RING slot) IDLE)) (word_at (started m slot block)) slot block =
    wrote-put_word (put_word m (next_slot START_RING slot) IDLE) slot block (omega (arith, length-put_word m (next_slot START_RING slot) IDLE, is.below)) fits in
    record {
      idle = second.other (next_slot START_RING slot) (apart_from_next START_RING slot is) ∙ first.same;
      filled = second.same;
      other = λ x here there. second.other x here ∙ first.other x there;
    }

pub cleared_wrote : (m : List ℕ) (slot : ℕ) → length m ≡ 0x400000 → IsSlot DONE_RING slot → Wrote (word_at m) (word_at (put_word m slot IDLE)) slot IDLE
cleared_wrote m slot size is = wrote-put_word m slot IDLE (omega (arith, is.below)) (lit< tt)

pub starts_in_ring : StartsInRing
starts_in_ring old new slot block is started =
    record { other = λ x out. started.other x (omega (arith, is.from, is.below, is.aligned)) (omega (arith, is.from, is.below, is.aligned)) }

-- ---- numbers

pub counts_start_slots : CountsSlots START_RING start_slot
counts_start_slots =
    record {
      is_slot = λ n. record { from = omega arith; below = omega arith; aligned = omega arith };
      next = λ n. omega arith;
      number = λ n. omega arith;
      slot = λ s is. omega (arith, is.from, is.below, is.aligned);
      below = λ s is. omega (arith, is.from, is.below);
    }

pub counts_done_slots : CountsSlots DONE_RING done_slot
counts_done_slots =
    record {
      is_slot = λ n. record { from = omega arith; below = omega arith; aligned = omega arith };
      next = λ n. omega arith;
      number = λ n. omega arith;
      slot = λ s is. omega (arith, is.from, is.below, is.aligned);
      below = λ s is. omega (arith, is.from, is.below);
    }
