-- A counter as contracts see it. Source: own.
use Rattle.std.specs.Prelude.{◌≡◌, ℕ, ◌+◌, ◌<◌, ◌≤◌, ◌⊎◌, ◌&&◌, Bool, false, not, nat_lt, List, ◌∷◌, ◌++◌, length, sum_by, Option, is_some, MatchBool, MatchOption}
use Rattle.bench_lock.specs.Log.{entry}
use Rattle.lock_callers.specs.declared.counter.Bounds.{Bounds}

pub record Counted : Type 0 where
  pub bounds : Bounds
  pub list : List (ℕ × ℕ)

abbrev pub sum_of : List (ℕ × ℕ) → ℕ
sum_of es = sum_by (λ e. e.1) es

-- a step that is smaller than the least is left out
abbrev pub is_left_out : Bounds → ℕ → Bool
is_left_out b x = nat_lt x b.least

-- there is no room for a step x: the sum would exceed its limit, or the list has its most entries
abbrev pub IsFull : Bounds → List (ℕ × ℕ) → ℕ → Type 0
IsFull b es x = (b.limit < sum_of es + x) ⊎ (b.most ≤ length es)

-- None where a step that isn't left out has no room, else the sum, to which it was added where it isn't left out
abbrev pub Allowed : Bounds → List (ℕ × ℕ) → ℕ → ℕ → Option ℕ → Type 0
Allowed b es by x reply = MatchOption reply ((is_left_out b x ≡ false) × IsFull b es x)
    (λ n. MatchBool (is_left_out b x) (n ≡ sum_of es) ((n ≡ sum_of es + x) × (n ≤ b.limit) × (length es < b.most)))

-- the reply alone doesn't tell: a step that is left out has the sum for its reply too
abbrev pub is_recorded : Bounds → ℕ → Option ℕ → Bool
is_recorded b x reply = is_some reply && not (is_left_out b x)

abbrev pub IsEntry : List (ℕ × ℕ) → ℕ → ℕ → Type 0
IsEntry es by x = (before : List (ℕ × ℕ)) × (after : List (ℕ × ℕ)) × (es ≡ before ++ entry by x ∷ after)

-- the step of a caller is an entry of the list, or is left out, or there is no room for it
abbrev pub IsServed : Bounds → List (ℕ × ℕ) → ℕ → ℕ → Type 0
IsServed b es by x = IsEntry es by x ⊎ ((x < b.least) ⊎ IsFull b es x)
