-- Tickets modulo 2 ^ 64, and lists.
use Rattle.std.proofs.Common.{◌≡◌, ◌≢◌, ℕ, zero, suc, ◌+◌, ◌%◌, ◌^◌, ◌<◌, ◌≤◌, ◌⊎◌, List, [], ◌∷◌, ◌++◌, length, set, sym, refl, ap, ◌∙◌, subst, ⊎_elim, inl, inr, add_assoc, arith, Bool, true, false, cond, ◌||◌, eqb, eqb-true, eq-eqb, not, drop}
use Rattle.std.proofs.Math.Nat.{mod-add-mod}
use mathlib.Core.Option.{some, some-injective, some-ne-none}
use lib.ListN.{get_elem?}
use Rattle.atomic_table.proofs.Lists.{at_set}
use Rattle.bench_lock.specs.declared.view.View.{View}
use Rattle.bench_lock.specs.Log.{has, without, Begins}
use Rattle.bench_lock.specs.Rule.{total}
use Rattle.bench_lock.specs.Views.{numbers_from}

pub draw_mod : (s n : ℕ) → ((s + n) % 2 ^ 64 + 1) % 2 ^ 64 ≡ (s + (n + 1)) % 2 ^ 64
draw_mod s n = mod-add-mod (s + n) (2 ^ 64) 1 ∙ ap (λ (x : ℕ). x % 2 ^ 64) (add_assoc s n 1)

pub pass_mod : (s k j : ℕ) → k ≡ j + 1 → (s + k) % 2 ^ 64 ≡ ((s + 1) % 2 ^ 64 + j) % 2 ^ 64
pass_mod s k j e = let same : s + k ≡ s + 1 + j = omega arith in ap (λ (x : ℕ). x % 2 ^ 64) same ∙ sym (mod-add-mod (s + 1) (2 ^ 64) j)

-- the ticket that is with_turn is the first
pub first_place : (s k : ℕ) → s < 2 ^ 64 → k < 2 ^ 32 → s ≡ (s + k) % 2 ^ 64 → k ≡ 0
first_place s k small few e = omega arith

pub dec_zero : (n : ℕ) → (n ≡ 0) ⊎ (0 < n)
dec_zero zero = inl refl
dec_zero (suc n) = inr (omega arith)

module _ {A : Type 0} where
  pub total_set : (f : A → ℕ) (xs : List A) (i : ℕ) (v w : A) → get_elem? xs i ≡ some v → total f (set xs i w) + f v ≡ total f xs + f w
  total_set f [] i v w e = absurd (some-ne-none v (sym e))
  total_set f (x ∷ xs) zero v w e = let h : f x ≡ f v = ap f (some-injective x v e) in omega arith
  total_set f (x ∷ xs) (suc i) v w e = let h = total_set f xs i v w e in omega arith

  pub total_le : (f : A → ℕ) → ((x : A) → f x ≤ 1) → (xs : List A) → total f xs ≤ length xs
  total_le f le [] = omega arith
  total_le f le (x ∷ xs) = let h = le x in let t = total_le f le xs in omega arith

  pub total-append : (f : A → ℕ) (xs ys : List A) → total f (xs ++ ys) ≡ total f xs + total f ys
  total-append f [] ys = omega arith
  total-append f (x ∷ xs) ys = let t = total-append f xs ys in omega arith

  pub inside : (xs : List A) (i : ℕ) (v : A) → get_elem? xs i ≡ some v → i < length xs
  inside [] i v e = absurd (some-ne-none v (sym e))
  inside (x ∷ xs) zero v e = omega arith
  inside (x ∷ xs) (suc i) v e = let h = inside xs i v e in omega arith

  pub one_view : (xs : List A) (i j : ℕ) (v w : A) → get_elem? xs i ≡ some v → get_elem? xs j ≡ some w → j ≡ i → w ≡ v
  one_view xs i j v w e f is = some-injective w v (sym f ∙ (ap (get_elem? xs) is ∙ e))

  pub seats_set : (P : ℕ → A → Type 0) (xs : List A) (i : ℕ) (w : A) → P i w → ((j : ℕ) (u : A) → j ≢ i → get_elem? xs j ≡ some u → P j u)
      → (j : ℕ) (u : A) → get_elem? (set xs i w) j ≡ some u → P j u
  seats_set P xs i w mine others j u e = ⊎_elim (λ (t : (j ≡ i) × (w ≡ u)). subst (λ (z : ℕ × A). P z.0 z.1) (λ k. (sym t.0 k, t.1 k)) mine)
      (λ (t : (j ≢ i) × (get_elem? xs j ≡ some u)). others j u t.0 t.1) (at_set xs i j w u e)

  pub at_end : (xs : List A) (j : ℕ) (a b : A) → get_elem? (xs ++ a ∷ []) j ≡ some b → (get_elem? xs j ≡ some b) ⊎ ((j ≡ length xs) × (a ≡ b))
  at_end [] zero a b e = inr (refl, some-injective a b e)
  at_end [] (suc j) a b e = absurd (some-ne-none b (sym e))
  at_end (x ∷ xs) zero a b e = inl e
  at_end (x ∷ xs) (suc j) a b e = ⊎_elim (λ h. inl h) (λ (t : (j ≡ length xs) × (a ≡ b)). inr (ap suc t.0, t.1)) (at_end xs j a b e)

pub prefix_of : {E : Type 0} → (xs ys r s : List E) → xs ++ r ≡ ys ++ s → length xs ≤ length ys → Begins xs ys
prefix_of {E} [] ys r s e le = (ys, refl)
prefix_of {E} (x ∷ xs) [] r s e le = absurd (omega arith)
prefix_of {E} (x ∷ xs) (y ∷ ys) r s e le =
    let head : x ≡ y = cc in
    let tail : xs ++ r ≡ ys ++ s = cc in
    let t = prefix_of xs ys r s tail (omega arith) in (t.0, λ i. sym head i ∷ t.1 i)

pub true_false : true ≡ false → ⊥
true_false e = cc

has_cons_or : (a b c d : Bool) → (b ≡ true → (c ≡ true) ⊎ (d ≡ true)) → (a || b) ≡ true → ((a || c) ≡ true) ⊎ (d ≡ true)
has_cons_or true b c d f h = inl refl
has_cons_or false b c d f h = f h

or_false : (a : Bool) → (a || false) ≡ true → a ≡ true
or_false true h = refl
or_false false h = h

pub has-append : (x : ℕ) (xs ys : List ℕ) → has x (xs ++ ys) ≡ true → (has x xs ≡ true) ⊎ (has x ys ≡ true)
has-append x [] ys h = inr h
has-append x (y ∷ xs) ys h = has_cons_or (eqb x y) (has x (xs ++ ys)) (has x xs) (has x ys) (has-append x xs ys) h

pub has_one : (x y : ℕ) → has x (y ∷ []) ≡ true → x ≡ y
has_one x y h = eqb-true x y (or_false (eqb x y) h)

pub or_cases : (a b : Bool) → (a || b) ≡ true → (a ≡ true) ⊎ (b ≡ true)
or_cases true b h = inl refl
or_cases false b h = inr h

pub or_left : (a b : Bool) → a ≡ true → (a || b) ≡ true
or_left true b h = refl
or_left false b h = absurd (true_false (sym h))

pub or_right : (a b : Bool) → b ≡ true → (a || b) ≡ true
or_right true b h = refl
or_right false b h = h

pub no_true : (b : Bool) → (b ≡ true → ⊥) → b ≡ false
no_true true f = absurd (f refl)
no_true false f = refl

eqb_ne : (x z : ℕ) → eqb x z ≡ false → x ≢ z
eqb_ne x z f is = true_false (sym (eq-eqb x z is) ∙ f)

has_without_at : (x y z : ℕ) (zs : List ℕ) (b : Bool) → eqb x z ≡ b → (has y (without x zs) ≡ true → (has y zs ≡ true) × (y ≢ x)) → has y (cond (not b) (z ∷ without x zs) (without x zs)) ≡ true → ((eqb y z || has y zs) ≡ true) × (y ≢ x)
has_without_at x y z zs true is later h = let t = later h in (or_right (eqb y z) (has y zs) t.0, t.1)
has_without_at x y z zs false is later h = ⊎_elim
    (λ a. (or_left (eqb y z) (has y zs) a, λ e. eqb_ne x z is (sym e ∙ eqb-true y z a)))
    (λ a. let t = later a in (or_right (eqb y z) (has y zs) t.0, t.1)) (or_cases (eqb y z) (has y (without x zs)) h)

pub has_without : (x y : ℕ) (ys : List ℕ) → has y (without x ys) ≡ true → (has y ys ≡ true) × (y ≢ x)
has_without x y [] h = absurd (true_false (sym h))
has_without x y (z ∷ zs) h = has_without_at x y z zs (eqb x z) refl (has_without x y zs) h

without_le : (x : ℕ) (ys : List ℕ) → length (without x ys) ≤ length ys
without_le x [] = omega arith
without_le x (y ∷ ys) = let h = without_le x ys in elim (eqb x y) as (λ b. length (cond (not b) (y ∷ without x ys) (without x ys)) ≤ suc (length ys)) [ true ↦ omega arith | false ↦ omega arith ]

without_less_at : (x y : ℕ) (ys : List ℕ) (b : Bool) → (has x ys ≡ true → length (without x ys) < length ys) → (b || has x ys) ≡ true → length (cond (not b) (y ∷ without x ys) (without x ys)) < suc (length ys)
without_less_at x y ys true later h = let l = without_le x ys in omega arith
without_less_at x y ys false later h = let l = later h in omega arith

pub without_less : (x : ℕ) (ys : List ℕ) → has x ys ≡ true → length (without x ys) < length ys
without_less x [] h = absurd (true_false (sym h))
without_less x (y ∷ ys) h = without_less_at x y ys (eqb x y) (without_less x ys) h

pub has_below : (x k n : ℕ) → has x (numbers_from k n) ≡ true → (k ≤ x) × (x < k + n)
has_below x k zero h = absurd (true_false (sym h))
has_below x k (suc n) h = ⊎_elim (λ a. let e = eqb-true x k a in (omega arith, omega arith)) (λ a. let t = has_below x (suc k) n a in let p = t.0 in let q = t.1 in (omega arith, omega arith)) (or_cases (eqb x k) (has x (numbers_from (suc k) n)) h)

pub length-numbers_from : (k n : ℕ) → length (numbers_from k n) ≡ n
length-numbers_from k zero = refl
length-numbers_from k (suc n) = ap suc (length-numbers_from (suc k) n)

pub drop_all : {A : Type 0} → (xs : List A) → drop (length xs) xs ≡ []
drop_all [] = refl
drop_all (x ∷ xs) = drop_all xs

module _ {O T : Type 0} where
  pub not_retired : (v w : View O T) (y : ℕ) → has y v.retired ≡ false → y ≢ w.caller → (has y w.retired ≡ true → ⊥) → has y ((v.retired ++ w.caller ∷ []) ++ w.retired) ≡ false
  not_retired v w y a b c = no_true (has y ((v.retired ++ w.caller ∷ []) ++ w.retired))
      (λ h. ⊎_elim (λ f. ⊎_elim (λ k. true_false (sym k ∙ a)) (λ k. b (has_one y w.caller k)) (has-append y v.retired (w.caller ∷ []) f)) c (has-append y (v.retired ++ w.caller ∷ []) w.retired h))

  pub not_retired' : (v w : View O T) (y : ℕ) → (has y v.retired ≡ true → ⊥) → y ≢ w.caller → has y w.retired ≡ false → has y ((v.retired ++ w.caller ∷ []) ++ w.retired) ≡ false
  not_retired' v w y a b c = not_retired v w y (no_true (has y v.retired) a) b (λ h. true_false (sym h ∙ c))
