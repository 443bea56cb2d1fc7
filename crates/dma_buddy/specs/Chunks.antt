-- Chunks of a buddy allocator (own, after Knuth's buddy system: powers of two, naturally aligned).
use Rattle.std.specs.Prelude.{◌≡◌, ℕ, ◌+◌, ◌-◌, ◌*◌, ◌/◌, ◌%◌, ◌^◌, ◌<◌, ◌≤◌, ◌==◌, ◌⊎◌, cond}
use Rattle.dma_buddy.specs.declared.buddies.Chunk.{Chunk}

-- The eight sizes: 512 bytes doubled up to seven times.
abbrev pub IsChunkSize : ℕ → Type 0
IsChunkSize size = (k : ℕ) × (k < 8) × (size ≡ 512 * 2 ^ k)

-- The least of these sizes that is at least len.
pub record IsSizeFor (len size : ℕ) : Type 0 where
  pub one_of : IsChunkSize size
  pub suffices : len ≤ size
  pub least : (other : ℕ) → IsChunkSize other → len ≤ other → size ≤ other

-- A chunk has one of the sizes, and its base is a multiple of its size.
pub record IsChunk (c : Chunk) : Type 0 where
  pub size : IsChunkSize c.size
  pub aligned : c.base % c.size ≡ 0

-- Two chunks share no address.
abbrev pub Apart : Chunk → Chunk → Type 0
Apart c d = (c.base + c.size ≤ d.base) ⊎ (d.base + d.size ≤ c.base)

-- Every address of c is one of d.
abbrev pub IsWithin : Chunk → Chunk → Type 0
IsWithin c d = (d.base ≤ c.base) × (c.base + c.size ≤ d.base + d.size)

-- Counted by their size from address 0, chunks have even and odd numbers: an even one is the lower half of
-- the chunk of twice its size, and an odd one the upper half.
abbrev pub side : Chunk → ℕ
side c = c.base / c.size % 2

-- The other half of the chunk of twice the size.
abbrev pub buddy : Chunk → Chunk
buddy c = record { base = cond (side c == 0) (c.base + c.size) (c.base - c.size); size = c.size }

-- The chunk of twice the size, of which c is a half.
abbrev pub joined : Chunk → Chunk
joined c = record { base = cond (side c == 0) c.base (c.base - c.size); size = 2 * c.size }

-- q is an upper half that is left where `whole` is split down to c, and the lower half kept each time.
pub record IsLeftOver (whole c q : Chunk) : Type 0 where
  pub size : IsChunkSize q.size
  pub at_least : c.size ≤ q.size
  pub below : q.size < whole.size
  pub place : q.base ≡ whole.base + q.size
