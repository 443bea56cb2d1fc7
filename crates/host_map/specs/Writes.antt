-- What a write in a range or a region of memory leaves as it was (own). Memory is seen by its words.
use Rattle.std.specs.Prelude.{◌≡◌, ◌≢◌, ℕ, ◌+◌, ◌≤◌, min, max}
use Rattle.bench_words.specs.Views.{Wrote, WroteWithin}
use Rattle.host_map.specs.Regions.{Region, first, behind, IsWordOf}

-- the words of a region are as before
pub record Kept (r : Region) (old new : ℕ → ℕ) : Type 0 where
  pub at : (a : ℕ) → IsWordOf r a → new a ≡ old a

-- only bytes of a region were written
abbrev pub WroteIn : Region → (ℕ → ℕ) → (ℕ → ℕ) → Type 0
WroteIn r old new = WroteWithin old new (first r) (behind r)

-- ---- laws of ranges

-- a word that is written is a write within each range that it lies in
abbrev pub WordsAreWithin : Type 0
WordsAreWithin = (old new : ℕ → ℕ) (a value low high : ℕ) → low ≤ a → a + 4 ≤ high → Wrote old new a value → WroteWithin old new low high

-- within a smaller range is within a larger one
abbrev pub LargerRanges : Type 0
LargerRanges = (old new : ℕ → ℕ) (low high lower higher : ℕ) → lower ≤ low → high ≤ higher → WroteWithin old new low high
    → WroteWithin old new lower higher

-- two writes are one, within the range from the lower beginning to the higher end
abbrev pub OneAfterAnother : Type 0
OneAfterAnother = (u v w : ℕ → ℕ) (low high low' high' : ℕ) → WroteWithin u v low high → WroteWithin v w low' high'
    → WroteWithin u w (min low low') (max high high')

-- nothing written is a write within each range
abbrev pub NothingWritten : Type 0
NothingWritten = (u : ℕ → ℕ) (low high : ℕ) → WroteWithin u u low high

-- ---- laws of regions

-- a write in a region leaves the words of every other region
abbrev pub LeavesOthers : Type 0
LeavesOthers = (r s : Region) (old new : ℕ → ℕ) → r ≢ s → WroteIn r old new → Kept s old new

-- a word of a region that is written is a write in it
abbrev pub WordsAreIn : Type 0
WordsAreIn = (r : Region) (old new : ℕ → ℕ) (a value : ℕ) → IsWordOf r a → Wrote old new a value → WroteIn r old new

-- what is kept twice is kept
abbrev pub KeptOn : Type 0
KeptOn = (r : Region) (u v w : ℕ → ℕ) → Kept r u v → Kept r v w → Kept r u w
