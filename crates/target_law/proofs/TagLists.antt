-- Tasks of which no two have one tag.
use Rattle.std.proofs.Common.{◌≡◌, ◌≢◌, ℕ, zero, suc, ◌+◌, ◌<◌, Bool, true, false, ◌&&◌, ◌||◌, not, List, [], ◌∷◌, length, refl, ap, arith, sym, subst, ◌∙◌, Option, Some, None, nat_eq, nat_lt, if◌then◌else◌, slice_get, remove, slice_index_or}
use Rattle.std.specs.List.{AllPairs}
use Rattle.std.proofs.lemmas.Bool.Decides.{nat_tests}
use Rattle.target_law.specs.Session.{Task}
use Rattle.target_law.specs.Bytes.{away}
use Rattle.target_law.specs.Target.{by_tag}
use Rattle.target_law.specs.Calls.{has_tag}

-- the tag of each task is that of no later one
abbrev pub are_distinct : List Task → Bool
are_distinct [] = true
are_distinct (k ∷ ks) = not (has_tag ks k.tag) && are_distinct ks

pub record Apart (tag : ℕ) (ks : List Task) : Type 0 where
  pub none : has_tag ks tag ≡ false
  pub rest : are_distinct ks ≡ true

parts : (a b : Bool) → (not a && b) ≡ true → (a ≡ false) × (b ≡ true)
parts false true e = (refl, refl)
parts false false e = cc
parts true b e = cc

joins : (a b : Bool) → a ≡ false → b ≡ true → (not a && b) ≡ true
joins false true e f = refl
joins false false e f = cc
joins true b e f = cc

pub apart-of : (k : Task) (ks : List Task) → are_distinct (k ∷ ks) ≡ true → Apart k.tag ks
apart-of k ks e = let p = parts (has_tag ks k.tag) (are_distinct ks) e in record { none = p.0; rest = p.1 }

pub distinct-of : (k : Task) (ks : List Task) → Apart k.tag ks → are_distinct (k ∷ ks) ≡ true
distinct-of k ks a = joins (has_tag ks k.tag) (are_distinct ks) a.none a.rest

neither : (a b : Bool) → (a || b) ≡ false → (a ≡ false) × (b ≡ false)
neither false false e = (refl, refl)
neither false true e = cc
neither true b e = cc

nor : (a b : Bool) → a ≡ false → b ≡ false → (a || b) ≡ false
nor false false e f = refl
nor false true e f = cc
nor true b e f = cc

turned : (a b : ℕ) → nat_eq a b ≡ false → nat_eq b a ≡ false
turned a b e = grind (arith, nat_tests)

-- among the others by its tag
tag-by : (lower : Bool) (k x : Task) (xs : List Task) (tag : ℕ) → nat_eq k.tag tag ≡ false → has_tag (x ∷ xs) tag ≡ false → has_tag (by_tag k xs) tag ≡ false
    → has_tag (if lower then k ∷ (x ∷ xs) else x ∷ by_tag k xs) tag ≡ false
tag-by true k x xs tag e h i = nor (nat_eq k.tag tag) _ e h
tag-by false k x xs tag e h i = nor (nat_eq x.tag tag) _ ((neither (nat_eq x.tag tag) (has_tag xs tag) h).0) i

none-by_tag : (k : Task) (ks : List Task) (tag : ℕ) → nat_eq k.tag tag ≡ false → has_tag ks tag ≡ false → has_tag (by_tag k ks) tag ≡ false
unfolding by_tag
none-by_tag k [] tag e h = nor (nat_eq k.tag tag) false e refl
none-by_tag k (x ∷ xs) tag e h = tag-by (nat_lt k.tag x.tag) k x xs tag e h (none-by_tag k xs tag e ((neither (nat_eq x.tag tag) (has_tag xs tag) h).1))

distinct-by : (lower : Bool) (k x : Task) (xs : List Task) → Apart k.tag (x ∷ xs) → Apart x.tag (by_tag k xs) → are_distinct (if lower then k ∷ (x ∷ xs) else x ∷ by_tag k xs) ≡ true
distinct-by true k x xs a b = distinct-of k (x ∷ xs) a
distinct-by false k x xs a b = distinct-of x (by_tag k xs) b

pub distinct-by_tag : (k : Task) (ks : List Task) → Apart k.tag ks → are_distinct (by_tag k ks) ≡ true
unfolding by_tag
distinct-by_tag k [] a = refl
distinct-by_tag k (x ∷ xs) a =
    let n = neither (nat_eq x.tag k.tag) (has_tag xs k.tag) a.none in
    let o = apart-of x xs a.rest in
    distinct-by (nat_lt k.tag x.tag) k x xs a (record { none = none-by_tag k xs x.tag (turned x.tag k.tag n.0) o.none; rest = distinct-by_tag k xs (record { none = n.1; rest = o.rest }) })

-- without one of them
none-remove : (ks : List Task) (n tag : ℕ) → has_tag ks tag ≡ false → has_tag (remove ks n) tag ≡ false
none-remove [] zero tag e = refl
none-remove [] (suc n) tag e = refl
none-remove (x ∷ xs) zero tag e = (neither (nat_eq x.tag tag) (has_tag xs tag) e).1
none-remove (x ∷ xs) (suc n) tag e = let p = neither (nat_eq x.tag tag) (has_tag xs tag) e in nor (nat_eq x.tag tag) _ p.0 (none-remove xs n tag p.1)

none-at : (ks : List Task) (n : ℕ) (k : Task) (tag : ℕ) → has_tag ks tag ≡ false → slice_get ks n ≡ Some k → nat_eq k.tag tag ≡ false
none-at [] n k tag e h = cc
none-at (x ∷ xs) zero k tag e h = let same : x ≡ k = cc in ap (λ (j : Task). nat_eq j.tag tag) (sym same) ∙ (neither (nat_eq x.tag tag) (has_tag xs tag) e).0
none-at (x ∷ xs) (suc n) k tag e h = none-at xs n k tag ((neither (nat_eq x.tag tag) (has_tag xs tag) e).1) h

pub apart-remove : (ks : List Task) (n : ℕ) (k : Task) → are_distinct ks ≡ true → slice_get ks n ≡ Some k → Apart k.tag (remove ks n)
apart-remove [] n k e h = cc
apart-remove (x ∷ xs) zero k e h = let same : x ≡ k = cc in subst (λ (j : Task). Apart j.tag xs) same (apart-of x xs e)
apart-remove (x ∷ xs) (suc n) k e h =
    let o = apart-of x xs e in
    let a = apart-remove xs n k o.rest h in
    record {
      none = nor (nat_eq x.tag k.tag) _ (turned k.tag x.tag (none-at xs n k x.tag o.none h)) a.none;
      rest = distinct-of x (remove xs n) (record { none = none-remove xs n x.tag o.none; rest = a.rest });
    }

-- said of each two
differs : (a b : ℕ) → nat_eq a b ≡ false → a ≢ b
differs a b e = grind (arith, nat_tests)

none-each : (ks : List Task) (tag i : ℕ) (d : Task) → has_tag ks tag ≡ false → i < length ks → tag ≢ (slice_index_or ks i d).tag
none-each [] tag i d e l = let f : ⊥ = omega arith in absurd f
none-each (x ∷ xs) tag zero d e l = differs tag x.tag (turned x.tag tag ((neither (nat_eq x.tag tag) (has_tag xs tag) e).0))
none-each (x ∷ xs) tag (suc i) d e l = none-each xs tag i d ((neither (nat_eq x.tag tag) (has_tag xs tag) e).1) (omega arith)

abbrev pub OtherTags : Task → Task → Type 0
OtherTags j k = j.tag ≢ k.tag

pub pairs-of : (ks : List Task) → are_distinct ks ≡ true → AllPairs OtherTags ks
pairs-of [] e i j d l m = let f : ⊥ = omega arith in absurd f
pairs-of (x ∷ xs) e zero zero d l m = let f : ⊥ = omega arith in absurd f
pairs-of (x ∷ xs) e zero (suc j) d l m = none-each xs x.tag j d (apart-of x xs e).none (omega arith)
pairs-of (x ∷ xs) e (suc i) zero d l m = let f : ⊥ = omega arith in absurd f
pairs-of (x ∷ xs) e (suc i) (suc j) d l m = pairs-of xs (apart-of x xs e).rest i j d (omega arith) (omega arith)

equal : (a b : ℕ) → a ≢ b → nat_eq b a ≡ false
equal a b d = grind (arith, nat_tests)

none-of : (x : Task) (ks : List Task) → ((i : ℕ) (d : Task) → i < length ks → x.tag ≢ (slice_index_or ks i d).tag) → has_tag ks x.tag ≡ false
none-of x [] f = refl
none-of x (y ∷ ys) f = nor (nat_eq y.tag x.tag) _ (equal x.tag y.tag (f 0 x (omega arith))) (none-of x ys (λ i d l. f (suc i) d (omega arith)))

pub of_pairs : (ks : List Task) → AllPairs OtherTags ks → are_distinct ks ≡ true
of_pairs [] p = refl
of_pairs (x ∷ xs) p = distinct-of x xs (record {
  none = none-of x xs (λ i d l. p 0 (suc i) d (omega arith) (omega arith));
  rest = of_pairs xs (λ i j d l m. p (suc i) (suc j) d (omega arith) (omega arith));
})
