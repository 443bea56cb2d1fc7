-- Memory seen through its words: a view gives the word at each address. What a write does to a view.
use Rattle.std.specs.Prelude.{◌≡◌, ℕ, ◌+◌, ◌-◌, ◌<◌, ◌≤◌}

-- the words at two addresses share no byte: the addresses are at least 4 apart
abbrev pub Apart : ℕ → ℕ → Type 0
Apart a b = 4 ≤ (a - b) + (b - a)

-- the word at an address shares no byte with the range from low up to high, high left out
abbrev pub Outside : ℕ → ℕ → ℕ → Type 0
Outside a low high = 0 < (low + 1 - (a + 4)) + (a + 1 - high)

-- one word was written: it reads as the value, and every word apart from it as before
pub record Wrote (old new : ℕ → ℕ) (a value : ℕ) : Type 0 where
  pub same : new a ≡ value
  pub other : (x : ℕ) → Apart a x → new x ≡ old x

-- only bytes of the range from low up to high were written: every word outside it reads as before
pub record WroteWithin (old new : ℕ → ℕ) (low high : ℕ) : Type 0 where
  pub other : (x : ℕ) → Outside x low high → new x ≡ old x
