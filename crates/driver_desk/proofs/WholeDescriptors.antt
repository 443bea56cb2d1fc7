-- Descriptor blocks that are whole.
use Rattle.std.proofs.Common.{arith, ◌≡◌, ℕ, zero, suc, ◌+◌, ◌<◌, ◌≤◌, ◌==◌, ◌||◌, Bool, true, false, not, cond, nat_lt, nat_le, lit<, subst, Option, Some, None, List, [], ◌∷◌, length, get_or, refl}
use Rattle.std.proofs.lemmas.Bool.Decides.{nat_tests}
use Rattle.std.specs.Prelude.{All, find, sum, option_map}
use Rattle.std.specs.List.{list_any}
use Rattle.std.proofs.lemmas.List.Sums.{sum_by-cons}
use Rattle.desk_law.specs.declared.refused.Kind.TheVariants.{NoUnit}
use Rattle.rig_types.specs.declared.rig.Unit.{Unit as RigUnit}
use Rattle.unit_law.specs.Request.{RequestData}
use Rattle.desk_law.specs.declared.refused.Kind.{Kind}
use Rattle.desk_law.specs.Refusals.{faults, kind_of}
use Rattle.cdb_codec.specs.Blocks.{length_of}
use Rattle.target_law.specs.Calls.{is_whole}

pub whole_some : (xs : List ℕ) → is_whole xs ≡ true → 0 < length xs
whole_some [] h = absurd cc
whole_some (x ∷ xs) h = omega arith

pub whole_length : (xs : List ℕ) → is_whole xs ≡ true → length xs ≡ length_of (get_or xs 0 0)
whole_length [] h = absurd cc
whole_length (x ∷ xs) h = grind (arith, nat_tests, h)

length-most : (a b : Bool) → cond a 10 (cond b 12 6) ≤ 16
length-most true b = omega arith
length-most false true = omega arith
length-most false false = omega arith

pub whole_few : (xs : List ℕ) → is_whole xs ≡ true → length xs ≤ 16
whole_few xs h =
    let n = whole_length xs h in
    let most : length_of (get_or xs 0 0) ≤ 16 = length-most _ _ in
    omega (arith, n, most)

-- ---- a request that isn't bad

not-false : (b : Bool) → not b ≡ false → b ≡ true
not-false true e = refl
not-false false e = absurd cc

by-flag : (b : Bool) (x : Bool × Kind) (o : Option (Bool × Kind)) → cond b (Some x) o ≡ None → (b ≡ false) × (o ≡ None)
by-flag true x o e = absurd cc
by-flag false x o e = (refl, e)

no-kind : (o : Option (Bool × Kind)) → option_map (λ (f : Bool × Kind). f.1) o ≡ None → o ≡ None
no-kind None e = refl
no-kind (Some x) e = absurd cc

pub record Sound (units : List RigUnit) (r : RequestData) : Type 0 where
  pub unit : r.unit < length units
  pub whole : is_whole r.cdb ≡ true
  pub segments : length r.segments ≤ 16
  pub some : list_any (λ (n : ℕ). n == 0) r.segments ≡ false
  pub few : sum r.segments ≤ 65536

none-true : (fs : List (Bool × Kind)) → find (λ (f : Bool × Kind). f.0) fs ≡ None → (i : ℕ) (d : Bool × Kind) → i < length fs → (get_or fs i d).0 ≡ false
none-true [] e i d low = absurd (omega (arith, low))
none-true (x ∷ xs) e zero d low = (by-flag x.0 x (find (λ (f : Bool × Kind). f.0) xs) e).0
none-true (x ∷ xs) e (suc i) d low = none-true xs (by-flag x.0 x (find (λ (f : Bool × Kind). f.0) xs) e).1 i d (omega (arith, low))

pub sound : (units : List RigUnit) (r : RequestData) → kind_of units r ≡ None → Sound units r
sound units r e =
    let none = no-kind (find (λ (f : Bool × Kind). f.0) (faults units r)) e in
    let d : Bool × Kind = (false, NoUnit) in
    let a : nat_le (length units) r.unit ≡ false = none-true (faults units r) none 0 d (lit< tt) in
    let b : not (is_whole r.cdb) ≡ false = none-true (faults units r) none 1 d (lit< tt) in
    let c : nat_lt 16 (length r.segments) ≡ false = none-true (faults units r) none 2 d (lit< tt) in
    let z : list_any (λ (n : ℕ). n == 0) r.segments ≡ false = none-true (faults units r) none 4 d (lit< tt) in
    let l : nat_lt 65536 (sum r.segments) ≡ false = none-true (faults units r) none 5 d (lit< tt) in
    record {
      unit = grind (arith, nat_tests, a);
      whole = not-false (is_whole r.cdb) b;
      segments = grind (arith, nat_tests, c);
      some = z;
      few = grind (arith, nat_tests, l);
    }

by-or : (a b : Bool) → (a || b) ≡ false → (a ≡ false) × (b ≡ false)
by-or true b e = absurd cc
by-or false b e = (refl, e)

pub each_segment : (ns : List ℕ) (most : ℕ) → list_any (λ (n : ℕ). n == 0) ns ≡ false → sum ns ≤ most → All (λ (n : ℕ). (1 ≤ n) × (n ≤ most)) ns
each_segment [] most e few i d low = absurd (omega (arith, low))
each_segment (n ∷ ns) most e few zero d low =
    let q = by-or (n == 0) (list_any (λ (x : ℕ). x == 0) ns) e in
    let few' : n + sum ns ≤ most = subst (λ (x : ℕ). x ≤ most) (sum_by-cons (λ (x : ℕ). x) n ns) few in
    (grind (arith, nat_tests, q.0), omega (arith, few'))
each_segment (n ∷ ns) most e few (suc i) d low =
    let q = by-or (n == 0) (list_any (λ (x : ℕ). x == 0) ns) e in
    let few' : n + sum ns ≤ most = subst (λ (x : ℕ). x ≤ most) (sum_by-cons (λ (x : ℕ). x) n ns) few in
    each_segment ns most q.1 (omega (arith, few')) i d (omega (arith, low))
