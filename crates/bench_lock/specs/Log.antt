-- Lists of entries, and lists of callers. Source: own.
use Rattle.std.specs.Prelude.{◌≡◌, ℕ, Bool, true, false, List, [], ◌∷◌, ◌++◌, ◌==◌, ◌||◌, not}
use Rattle.std.specs.List.{filter}

-- the entry of a step: its caller's number and the step
abbrev pub entry : {T : Type 0} → ℕ → T → ℕ × T
entry by x = (by, x)

-- the list, and the entry at its end where it is recorded
abbrev pub added : {E : Type 0} → List E → Bool → E → List E
added es true e = es ++ e ∷ []
added es false e = es

-- the entries of one caller, in order
abbrev pub entries_of : {T : Type 0} → ℕ → List (ℕ × T) → List (ℕ × T)
entries_of by es = filter (λ e. e.0 == by) es

-- the list es begins with what was seen
abbrev pub Begins : {E : Type 0} → List E → List E → Type 0
Begins {E} seen es = (rest : List E) × (es ≡ seen ++ rest)

-- x is one of the numbers
abbrev pub has : ℕ → List ℕ → Bool
has x [] = false
has x (y ∷ ys) = (x == y) || has x ys

-- the numbers without x
abbrev pub without : ℕ → List ℕ → List ℕ
without x ys = filter (λ y. not (x == y)) ys
