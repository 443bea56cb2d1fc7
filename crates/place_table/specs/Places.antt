-- Places that are free or have a holder, and the bits that tell which are free (own).
use Rattle.std.specs.Prelude.{◌≡◌, ℕ, ◌+◌, ◌*◌, ◌/◌, ◌%◌, ◌<◌, true, List, [], length, Option, None, IsSome, slice_index_or}
use Rattle.byte_set.specs.Bits.{holds}
use Rattle.std.specs.Option.{is_none}

-- the groups' bits are set where a place has no holder
pub record IsMarked (held : List (Option ℕ)) (free : List (List ℕ)) : Type 0 where
  pub size : length held ≡ 256 * length free
  pub bits : (i : ℕ) → i < length held → holds (slice_index_or free (i / 256) []) (i % 256) ≡ is_none (slice_index_or held i None)

-- groups with all their bits set
pub record AreWhole (groups : ℕ) (free : List (List ℕ)) : Type 0 where
  pub count : length free ≡ groups
  pub bits : (g n : ℕ) → g < groups → n < 256 → holds (slice_index_or free g []) n ≡ true

-- of the places from the first on, n is the least that `apart` divides and that has no holder
pub record IsLeastFree (held : List (Option ℕ)) (first apart n : ℕ) : Type 0 where
  pub low : n < 256
  pub step : n % apart ≡ 0
  pub free : slice_index_or held (first + n) None ≡ None
  pub least : (i : ℕ) → i < n → i % apart ≡ 0 → IsSome (slice_index_or held (first + i) None)
