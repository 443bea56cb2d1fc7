-- Sets of numbers as bits in words of 64, and words that sum up others (own).
use Rattle.std.specs.Prelude.{◌≡◌, ◌≢◌, ℕ, ◌*◌, ◌/◌, ◌%◌, ◌^◌, ◌<◌, ◌≤◌, ◌==◌, Bool, List, length, map, slice_index}
use Rattle.std.specs.List.{range_with_len}
use Rattle.std.specs.Int.{bit_at}

-- bit i of a list of words is bit i % 64 of word i / 64: 1 or 0
abbrev pub bit_in : List ℕ → ℕ → ℕ
bit_in words i = bit_at (slice_index words (i / 64)) (i % 64)

-- the first n bits
abbrev pub flags : List ℕ → ℕ → List Bool
flags words n = map (λ i. bit_in words i == 1) (range_with_len 0 n)

-- `after` is `before` with bit i set, or cleared
pub record HasSet (before : List ℕ) (i : ℕ) (after : List ℕ) : Type 0 where
  pub count : length after ≡ length before
  pub bit : bit_in after i ≡ 1
  pub others : (j : ℕ) → j ≢ i → bit_in after j ≡ bit_in before j
  pub other_words : (w : ℕ) → w ≢ i / 64 → slice_index after w ≡ slice_index before w

pub record HasCleared (before : List ℕ) (i : ℕ) (after : List ℕ) : Type 0 where
  pub count : length after ≡ length before
  pub bit : bit_in after i ≡ 0
  pub others : (j : ℕ) → j ≢ i → bit_in after j ≡ bit_in before j
  pub other_words : (w : ℕ) → w ≢ i / 64 → slice_index after w ≡ slice_index before w

-- `after` has the words of `before`, and behind them none but words of 0
pub record HasWords (before after : List ℕ) : Type 0 where
  pub words : (w : ℕ) → slice_index after w ≡ slice_index before w
  pub longer : length before ≤ length after

-- the bits of `high` tell which words of `low` aren't 0
pub record SumsUp (high low : List ℕ) : Type 0 where
  pub room : length low ≤ 64 * length high
  pub set : (w : ℕ) → bit_in high w ≡ 1 → 0 < slice_index low w
  pub clear : (w : ℕ) → bit_in high w ≡ 0 → slice_index low w ≡ 0

-- i is the least bit that is set
pub record IsLeastBit (words : List ℕ) (i : ℕ) : Type 0 where
  pub set : bit_in words i ≡ 1
  pub clear_below : (j : ℕ) → j < i → bit_in words j ≡ 0

-- six layers of words, each but the last summed up by the next; the last is one word
pub record IsLayered (n : ℕ) (first second third fourth fifth sixth : List ℕ) : Type 0 where
  pub few : n ≤ 2 ^ 32
  pub room : n ≤ 64 * length first
  pub none_past : (i : ℕ) → n ≤ i → bit_in first i ≡ 0
  pub of_first : SumsUp second first
  pub of_second : SumsUp third second
  pub of_third : SumsUp fourth third
  pub of_fourth : SumsUp fifth fourth
  pub of_fifth : SumsUp sixth fifth
  pub one : length sixth ≡ 1
