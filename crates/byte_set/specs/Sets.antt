-- Sets of numbers, as what tells of each number whether it is in the set (own).
use Rattle.std.specs.Prelude.{◌≡◌, ◌≢◌, ℕ, ◌<◌, ◌%◌, Bool, true, false}

abbrev pub IsEmpty : (ℕ → Bool) → Type 0
IsEmpty s = (n : ℕ) → s n ≡ false

-- the set with one number more, and with one less
pub record Adds (old : ℕ → Bool) (n : ℕ) (new : ℕ → Bool) : Type 0 where
  pub one : new n ≡ true
  pub others : (j : ℕ) → j ≢ n → new j ≡ old j

pub record Removes (old : ℕ → Bool) (n : ℕ) (new : ℕ → Bool) : Type 0 where
  pub one : new n ≡ false
  pub others : (j : ℕ) → j ≢ n → new j ≡ old j

-- of the numbers that `apart` divides
abbrev pub IsEmptyOf : (ℕ → Bool) → ℕ → Type 0
IsEmptyOf s apart = (n : ℕ) → n % apart ≡ 0 → s n ≡ false

pub record IsLeast (s : ℕ → Bool) (apart n : ℕ) : Type 0 where
  pub step : n % apart ≡ 0
  pub one : s n ≡ true
  pub below : (j : ℕ) → j < n → j % apart ≡ 0 → s j ≡ false
