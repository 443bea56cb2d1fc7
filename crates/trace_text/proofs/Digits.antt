-- Digits from left to right.
use Rattle.std.proofs.Common.{◌≡◌, ℕ, ◌+◌, ◌*◌, ◌-◌, ◌^◌, ◌≤◌, Bool, true, false, cond, ◌&&◌, ltb, List, [], ◌∷◌, Some, None, refl, sym, arith}
use Rattle.std.proofs.lemmas.Bool.{le-ltb}
use Rattle.std.specs.Str.{all_ascii_digits}
use Rattle.trace_text.specs.Reading.{value_after, digits_in}

pub value_after_ge : (n : ℕ) (ds : List ℕ) → n ≤ value_after n ds
value_after_ge n [] = omega arith
value_after_ge n (d ∷ ds) = omega (arith, value_after_ge (10 * n + (d - 48)) ds)

none_by : (a : Bool) (v : ℕ) → 2 ^ 32 ≤ v → cond (a && ltb v (2 ^ 32)) (Some v) None ≡ None
none_by true v h = rw (le-ltb v (2 ^ 32) h) refl
none_by false v h = refl

-- a number that is too large already
pub digits_too_large : (bs : List ℕ) (n : ℕ) (ds : List ℕ) → value_after n ds ≡ value_after 0 bs → 2 ^ 32 ≤ n → None ≡ digits_in bs
digits_too_large bs n ds same h = sym (none_by (all_ascii_digits bs) (value_after 0 bs) (omega (arith, value_after_ge n ds, same)))

-- a byte that is no digit
pub digits_not : (bs : List ℕ) → all_ascii_digits bs ≡ false → None ≡ digits_in bs
digits_not bs h = rw h refl
