-- The start ring and the done ring (own). A slot is named by its address; its first word holds a block, its second
-- the address of the next slot.
use Rattle.std.specs.Prelude.{◌≡◌, ℕ, ◌+◌, ◌-◌, ◌/◌, ◌%◌, ◌<◌, ◌≤◌, List}
use Rattle.bench_words.specs.Memory.{put_word}
use Rattle.bench_words.specs.Views.{Apart}
use Rattle.host_map.specs.declared.TheConstants.{IDLE, START_RING}
use Rattle.host_map.specs.Regions.{StartRing}
use Rattle.host_map.specs.Writes.{WroteIn}

-- one of the 512 slots of the ring that begins there
pub record IsSlot (ring slot : ℕ) : Type 0 where
  pub from : ring ≤ slot
  pub below : slot < ring + 4096
  pub aligned : (slot - ring) % 8 ≡ 0

-- the slot behind a slot: the ring goes round
abbrev pub next_slot : ℕ → ℕ → ℕ
next_slot ring slot = ring + (slot - ring + 8) % 4096

-- the number of a slot in its ring, below 512
abbrev pub slot_number : ℕ → ℕ → ℕ
slot_number ring slot = (slot - ring) / 8

-- memory after a block was started: the next slot is idle, and then this one has the block
abbrev pub started : List ℕ → ℕ → ℕ → List ℕ
started m slot block = put_word (put_word m (next_slot START_RING slot) IDLE) slot block

-- what starting a block does to the words of memory: the next slot is idle, this one has the block, and every word
-- apart from both is as before
pub record Started (old new : ℕ → ℕ) (slot block : ℕ) : Type 0 where
  pub idle : new (next_slot START_RING slot) ≡ IDLE
  pub filled : new slot ≡ block
  pub other : (x : ℕ) → Apart slot x → Apart (next_slot START_RING slot) x → new x ≡ old x

-- ---- laws

-- The slots of a ring, named by how often the ring was used: use n takes the slot `slot_of n`, the next use the slot
-- behind it, and 512 uses go once round. Every slot has one number below 512.
pub record CountsSlots (ring : ℕ) (slot_of : ℕ → ℕ) : Type 0 where
  pub is_slot : (n : ℕ) → IsSlot ring (slot_of n)
  pub next : (n : ℕ) → next_slot ring (slot_of n) ≡ slot_of (n + 1)
  pub number : (n : ℕ) → slot_number ring (slot_of n) ≡ n % 512
  pub slot : (s : ℕ) → IsSlot ring s → slot_of (slot_number ring s) ≡ s
  pub below : (s : ℕ) → IsSlot ring s → slot_number ring s < 512

-- starting a block writes in the start ring alone
abbrev pub StartsInRing : Type 0
StartsInRing = (old new : ℕ → ℕ) (slot block : ℕ) → IsSlot START_RING slot → Started old new slot block → WroteIn StartRing old new
