-- Laws of the region: a call has one answer, and leaves one region (own).
use Rattle.std.specs.Prelude.{◌≡◌, ℕ, List}
use Rattle.dma_buddy.specs.declared.buddies.Chunk.{Chunk}
use Rattle.dma_buddy.specs.Regions.{Space, IsNoneFor, Takes, TakesAll, RefusesAt, Gives}

-- Two results of the same take are equal; where a chunk is taken, one sufficed.
pub record OneTake (s : Space) (len : ℕ) : Type 0 where
  pub one : (c d : Chunk) (t u : Space) → Takes s len c t → Takes s len d u → (c ≡ d) × (t ≡ u)
  pub either : (c : Chunk) (t : Space) → Takes s len c t → IsNoneFor s len → ⊥

-- The same of a list of lengths: one list of chunks and one region, or one length that is refused.
pub record OneTakeAll (s : Space) (lens : List ℕ) : Type 0 where
  pub one : (cs ds : List Chunk) (t u : Space) → TakesAll s lens cs t → TakesAll s lens ds u → (cs ≡ ds) × (t ≡ u)
  pub refused : (len other : ℕ) → RefusesAt s lens len → RefusesAt s lens other → len ≡ other
  pub either : (cs : List Chunk) (t : Space) (len : ℕ) → TakesAll s lens cs t → RefusesAt s lens len → ⊥

-- Two results of the same give are equal.
abbrev pub OneGive : Space → Chunk → Type 0
OneGive s c = (t u : Space) → Gives s c t → Gives s c u → t ≡ u
