-- A set of numbers as bits in words of 64 (own).
use Rattle.std.specs.Prelude.{◌≡◌, ℕ, ◌/◌, ◌%◌, ◌<◌, ◌==◌, Bool, List, slice_index}
use Rattle.std.specs.Int.{bit_at}

-- bit n of a list of words is bit n % 64 of word n / 64
abbrev pub bit_in : List ℕ → ℕ → ℕ
bit_in words n = bit_at (slice_index words (n / 64)) (n % 64)

abbrev pub holds : List ℕ → ℕ → Bool
holds words n = bit_in words n == 1

-- a word of which just the bits are set whose places `apart` divides
pub record IsMask (word apart : ℕ) : Type 0 where
  pub set : (i : ℕ) → i < 64 → i % apart ≡ 0 → bit_at word i ≡ 1
  pub only : (i : ℕ) → i < 64 → bit_at word i ≡ 1 → i % apart ≡ 0
