-- The set of free chunks as flags by size, and single changes of it (own; nothing outside the crate cites them).
use Rattle.std.specs.Prelude.{◌≡◌, ◌≢◌, ◌↔◌, ℕ, ◌+◌, ◌-◌, ◌*◌, ◌%◌, ◌^◌, ◌<◌, ◌⊎◌, Bool, false, cond, List, [], ◌∷◌, ◌++◌, length, slice_index_or}
use Rattle.dma_buddy.specs.declared.buddies.Chunk.{Chunk}
use Rattle.dma_buddy.specs.Chunks.{Apart, IsWithin, IsLeftOver}
use Rattle.dma_buddy.specs.Regions.{Space, IsFree, IsChunkOf, IsListed, IsOut, IsSamePlace, Merges, TakesAll, LeavesAllOut, bytes_free}

-- The chunks of one size whose flags are set, from an address on.
abbrev pub marked : ℕ → ℕ → List Bool → List Chunk
marked size base [] = []
marked size base (b ∷ bs) = cond b (record { base = base; size = size } ∷ marked size (base + size) bs) (marked size (base + size) bs)

-- The same for each size, doubled from one to the next.
abbrev pub listed : ℕ → ℕ → List (List Bool) → List Chunk
listed size base [] = []
listed size base (flags ∷ rest) = marked size base flags ++ listed (2 * size) base rest

-- The chunk number i of the size of order k.
abbrev pub chunk_at : ℕ → ℕ → ℕ → Chunk
chunk_at base k i = record { base = base + 512 * 2 ^ k * i; size = 512 * 2 ^ k }

abbrev pub flag_at : List (List Bool) → ℕ → ℕ → Bool
flag_at sets k i = slice_index_or (slice_index_or sets k []) i false

abbrev pub space_of : ℕ → ℕ → List (List Bool) → Space
space_of base units sets = record { base = base; units = units; free = listed 512 base sets }

-- There is a flag for each chunk of the region.
pub record IsShaped (base units : ℕ) (sets : List (List Bool)) : Type 0 where
  pub aligned : base % 65536 ≡ 0
  pub fits : base + 65536 * units < 2 ^ 32
  pub count : length sets ≡ 8
  pub sizes : (k : ℕ) → k < 8 → length (slice_index_or sets k []) ≡ units * 2 ^ (7 - k)

-- c has the flag number i of order k.
pub record IsPlaceOf (s : Space) (c : Chunk) (k i : ℕ) : Type 0 where
  pub order : k < 8
  pub index : i < s.units * 2 ^ (7 - k)
  pub is : c ≡ chunk_at s.base k i

-- One chunk more, or one less.
pub record Adds (before : Space) (c : Chunk) (after : Space) : Type 0 where
  pub place : IsSamePlace before after
  pub free : (q : Chunk) → IsFree after q ↔ (IsFree before q ⊎ (q ≡ c))
  pub bytes : bytes_free after ≡ bytes_free before + c.size
  pub listed : IsListed after.free

pub record Drops (before : Space) (c : Chunk) (after : Space) : Type 0 where
  pub place : IsSamePlace before after
  pub free : (q : Chunk) → IsFree after q ↔ (IsFree before q × (q ≢ c))
  pub bytes : bytes_free after + c.size ≡ bytes_free before
  pub listed : IsListed after.free

-- What is left of `whole` is added where it is split down to `size`.
pub record Splits (before : Space) (whole : Chunk) (size : ℕ) (after : Space) : Type 0 where
  pub place : IsSamePlace before after
  pub free : (q : Chunk) → IsFree after q ↔ (IsFree before q ⊎ IsLeftOver whole (record { base = whole.base; size = size }) q)
  pub bytes : bytes_free after + size ≡ bytes_free before + whole.size
  pub listed : IsListed after.free

-- c has become w, and the buddies with which it was merged are taken out.
pub record Merged (before : Space) (c w : Chunk) (after : Space) : Type 0 where
  pub place : IsSamePlace before after
  pub times : ℕ
  pub merges : Merges times before c w
  pub chunk : IsChunkOf before w
  pub holds : IsWithin c w
  pub free : (q : Chunk) → IsFree after q ↔ (IsFree before q × (IsWithin q w → ⊥))
  pub apart : (q : Chunk) → IsFree after q → Apart w q
  pub others : (d : Chunk) → IsOut before d → Apart c d → Apart w d
  pub bytes : bytes_free after + w.size ≡ bytes_free before + c.size
  pub listed : IsListed after.free

-- A chunk is taken for each length, and they are added to a list.
pub record TakesOnto (before : Space) (lens : List ℕ) (front back : List Chunk) (after : Space) : Type 0 where
  pub chunks : List Chunk
  pub added : back ≡ front ++ chunks
  pub taken : TakesAll before lens chunks after
  pub out : LeavesAllOut before chunks after
