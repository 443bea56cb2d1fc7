-- A field's range as a test.
use Rattle.std.specs.Prelude.{ℕ, Bool, nat_eq, nat_lt, not, ◌&&◌, ◌||◌}

-- a code that a phase has: 4 and 5 are reserved
abbrev pub is_phase : ℕ → Bool
is_phase p = nat_lt p 8 && not (nat_eq p 4 || nat_eq p 5)
