-- The region: where it lies, and the set of its free chunks (own).
use Rattle.std.specs.Prelude.{◌≡◌, ◌≢◌, ◌↔◌, ℕ, zero, suc, ◌+◌, ◌*◌, ◌%◌, ◌^◌, ◌<◌, ◌≤◌, ◌⊎◌, List, [], ◌∷◌}
use Rattle.std.specs.List.{sum_by}
use Rattle.dma_buddy.specs.declared.buddies.Chunk.{Chunk}
use Rattle.dma_buddy.specs.Chunks.{IsChunk, IsSizeFor, Apart, IsWithin, buddy, joined, IsLeftOver}

-- `units` units of 65,536 bytes from `base` on. `free` lists the set of free chunks, by size and then by base.
pub record Space : Type 0 where
  pub base : ℕ
  pub units : ℕ
  pub free : List Chunk

abbrev pub IsAmong : List Chunk → Chunk → Type 0
IsAmong [] c = ⊥
IsAmong (x ∷ xs) c = (c ≡ x) ⊎ IsAmong xs c

-- c is in the set of free chunks.
abbrev pub IsFree : Space → Chunk → Type 0
IsFree s c = IsAmong s.free c

abbrev pub IsBefore : Chunk → Chunk → Type 0
IsBefore c d = (c.size < d.size) ⊎ ((c.size ≡ d.size) × (c.base < d.base))

abbrev pub IsListed : List Chunk → Type 0
IsListed [] = Unit {0}
IsListed (x ∷ xs) = ((c : Chunk) → IsAmong xs c → IsBefore x c) × IsListed xs

-- A chunk of the region: it lies in the units.
pub record IsChunkOf (s : Space) (c : Chunk) : Type 0 where
  pub chunk : IsChunk c
  pub from : s.base ≤ c.base
  pub to : c.base + c.size ≤ s.base + 65536 * s.units

-- What is true of every region.
pub record IsRegion (s : Space) : Type 0 where
  pub aligned : s.base % 65536 ≡ 0
  pub fits : s.base + 65536 * s.units < 2 ^ 32
  pub chunks : (c : Chunk) → IsFree s c → IsChunkOf s c
  pub apart : (c d : Chunk) → IsFree s c → IsFree s d → c ≢ d → Apart c d
  pub merged : (c : Chunk) → IsFree s c → c.size < 65536 → IsFree s (buddy c) → ⊥
  pub listed : IsListed s.free

-- A chunk of the region that shares no address with a free chunk.
pub record IsOut (s : Space) (c : Chunk) : Type 0 where
  pub chunk : IsChunkOf s c
  pub apart : (d : Chunk) → IsFree s d → Apart c d

-- The sum of the sizes of the free chunks.
abbrev pub bytes_free : Space → ℕ
bytes_free s = sum_by (λ c. c.size) s.free

-- The same base and units.
abbrev pub IsSamePlace : Space → Space → Type 0
IsSamePlace s t = (t.base ≡ s.base) × (t.units ≡ s.units)

-- No free chunk suffices.
abbrev pub IsNoneFor : Space → ℕ → Type 0
IsNoneFor s len = (c : Chunk) → IsFree s c → c.size < len

-- Of the free chunks that suffice, those of the least size, and of these the one at the lowest base.
pub record IsBestFor (s : Space) (len : ℕ) (c : Chunk) : Type 0 where
  pub free : IsFree s c
  pub suffices : len ≤ c.size
  pub least : (d : Chunk) → IsFree s d → len ≤ d.size → c.size ≤ d.size
  pub lowest : (d : Chunk) → IsFree s d → d.size ≡ c.size → c.base ≤ d.base

-- Take: the best free chunk is split down to the least size that is at least len, with the lower half kept each time.
-- The free chunks are listed in order again, so that one set of them is one region.
pub record Takes (before : Space) (len : ℕ) (c : Chunk) (after : Space) : Type 0 where
  pub place : IsSamePlace before after
  pub whole : Chunk
  pub best : IsBestFor before len whole
  pub base : c.base ≡ whole.base
  pub size : IsSizeFor len c.size
  pub free : (q : Chunk) → IsFree after q ↔ ((IsFree before q × (q ≢ whole)) ⊎ IsLeftOver whole c q)
  pub listed : IsListed after.free

-- w is what c becomes where it is joined with its buddy n times: each time the buddy is free, and c less than a unit.
abbrev pub Merges : ℕ → Space → Chunk → Chunk → Type 0
Merges zero s c w = w ≡ c
Merges (suc n) s c w = (c.size < 65536) × IsFree s (buddy c) × Merges n s (joined c) w

-- Give: the chunk is merged with its buddy as long as that is free and less than a unit. The free chunks are listed in
-- order again.
pub record Gives (before : Space) (c : Chunk) (after : Space) : Type 0 where
  pub place : IsSamePlace before after
  pub whole : Chunk
  pub times : ℕ
  pub merges : Merges times before c whole
  pub ends : whole.size < 65536 → IsFree before (buddy whole) → ⊥
  pub free : (q : Chunk) → IsFree after q ↔ ((q ≡ whole) ⊎ (IsFree before q × (IsWithin q whole → ⊥)))
  pub listed : IsListed after.free

-- Takes in order.
abbrev pub TakesAll : Space → List ℕ → List Chunk → Space → Type 0
TakesAll s [] [] t = t ≡ s
TakesAll s [] (c ∷ cs) t = ⊥
TakesAll s (len ∷ lens) [] t = ⊥
TakesAll s (len ∷ lens) (c ∷ cs) t = (m : Space) × Takes s len c m × TakesAll m lens cs t

-- len is the first of the lengths for which no free chunk suffices at its turn.
abbrev pub RefusesAt : Space → List ℕ → ℕ → Type 0
RefusesAt s [] len = ⊥
RefusesAt s (l ∷ ls) len = ((l ≡ len) × IsNoneFor s len) ⊎ ((c : Chunk) × (m : Space) × Takes s l c m × RefusesAt m ls len)

-- The free chunks are the units, each whole.
abbrev pub IsWhole : Space → Type 0
IsWhole s = (c : Chunk) → IsFree s c ↔ (IsChunkOf s c × (c.size ≡ 65536))

-- c lies in a free chunk.
abbrev pub LiesInFree : Space → Chunk → Type 0
LiesInFree s c = (whole : Chunk) × IsFree s whole × IsWithin c whole

-- What a taken chunk means for those that are out: it lay in a free chunk, it is out now, and chunks that were out
-- before are out still and share no address with it.
pub record LeavesOut (before : Space) (c : Chunk) (after : Space) : Type 0 where
  pub lay : LiesInFree before c
  pub out : IsOut after c
  pub others : (d : Chunk) → IsOut before d → IsOut after d × Apart c d
  pub bytes : bytes_free after + c.size ≡ bytes_free before

-- No two of these chunks share an address.
abbrev pub AreApart : List Chunk → Type 0
AreApart [] = Unit {0}
AreApart (c ∷ cs) = ((d : Chunk) → IsAmong cs d → Apart c d) × AreApart cs

-- The same of a list of chunks, which share no address with each other either.
pub record LeavesAllOut (before : Space) (cs : List Chunk) (after : Space) : Type 0 where
  pub lay : (c : Chunk) → IsAmong cs c → LiesInFree before c
  pub out : (c : Chunk) → IsAmong cs c → IsOut after c
  pub apart : AreApart cs
  pub others : (d : Chunk) → IsOut before d → IsOut after d × ((c : Chunk) → IsAmong cs c → Apart c d)
  pub bytes : bytes_free after + sum_by (λ c. c.size) cs ≡ bytes_free before

-- What a chunk that is given back means for those that are out: the others stay out.
pub record PutsBack (before : Space) (c : Chunk) (after : Space) : Type 0 where
  pub others : (d : Chunk) → IsOut before d → Apart c d → IsOut after d
  pub bytes : bytes_free after ≡ bytes_free before + c.size

-- Chunks that are out, and share no address with each other.
pub record AreOut (s : Space) (cs : List Chunk) : Type 0 where
  pub out : (c : Chunk) → IsAmong cs c → IsOut s c
  pub apart : AreApart cs
