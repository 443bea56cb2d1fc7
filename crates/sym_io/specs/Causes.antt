-- Counts of faults, and when an answer may blame one.
use Rattle.std.specs.Prelude.{ℕ, ◌+◌, ◌-◌, ◌^◌, ◌≤◌, min}

-- A count of faults goes up by one, and stands still at the end of its 64 bits.
abbrev pub count_up : ℕ → ℕ
count_up n = min (n + 1) (2 ^ 64 - 1)

-- The count rose, or stands at its end.
abbrev pub Rose : ℕ → ℕ → Type 0
Rose before now = count_up before ≤ now
