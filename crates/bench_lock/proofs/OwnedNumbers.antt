-- Which numbers a seat owns as it is split and joined. For callers above.
use Rattle.std.proofs.Common.{◌≡◌, ◌≢◌, ℕ, zero, suc, ◌+◌, ◌-◌, ◌≤◌, ◌<◌, eqb, List, [], ◌∷◌, ◌++◌, sym, refl, ap, ◌∙◌, subst, ⊎_elim, arith, Bool, true, false, cond, not, ◌||◌, eq-eqb, eqb-true, length, ltb, append-nil, append_assoc}
use mathlib.Core.Logic.{dite}
use native.Mathlib.Decide.{ℕ_discrete}
use Rattle.bench_lock.specs.declared.view.View.{View}
use Rattle.bench_lock.specs.Log.{has, without, added, Begins}
use Rattle.bench_lock.specs.Views.{Owns, HasAllCallers, Follows, first_view, left_view, right_view, joined_view, numbers_from}
use Rattle.bench_lock.specs.Stepped.{Stepped}
use Rattle.bench_lock.proofs.Numbers.{or_cases, or_left, or_right, true_false}

has-append_left : (x : ℕ) (xs ys : List ℕ) → has x xs ≡ true → has x (xs ++ ys) ≡ true
has-append_left x [] ys h = absurd (true_false (sym h))
has-append_left x (y ∷ xs) ys h = ⊎_elim (λ a. or_left (eqb x y) (has x (xs ++ ys)) a) (λ a. or_right (eqb x y) (has x (xs ++ ys)) (has-append_left x xs ys a)) (or_cases (eqb x y) (has x xs) h)

has-append_right : (x : ℕ) (xs ys : List ℕ) → has x ys ≡ true → has x (xs ++ ys) ≡ true
has-append_right x [] ys h = h
has-append_right x (y ∷ xs) ys h = or_right (eqb x y) (has x (xs ++ ys)) (has-append_right x xs ys h)

has-without_at : (x y z : ℕ) (zs : List ℕ) (b : Bool) → eqb x z ≡ b → y ≢ x → (has y zs ≡ true → has y (without x zs) ≡ true) → (eqb y z || has y zs) ≡ true → has y (cond (not b) (z ∷ without x zs) (without x zs)) ≡ true
has-without_at x y z zs true is ne later h = ⊎_elim (λ a. absurd (ne (eqb-true y z a ∙ sym (eqb-true x z is)))) later (or_cases (eqb y z) (has y zs) h)
has-without_at x y z zs false is ne later h = ⊎_elim (λ a. or_left (eqb y z) (has y (without x zs)) a) (λ a. or_right (eqb y z) (has y (without x zs)) (later a)) (or_cases (eqb y z) (has y zs) h)

-- a number other than x stays
pub has-without : (x y : ℕ) (ys : List ℕ) → y ≢ x → has y ys ≡ true → has y (without x ys) ≡ true
has-without x y [] ne h = absurd (true_false (sym h))
has-without x y (z ∷ zs) ne h = has-without_at x y z zs (eqb x z) refl ne (has-without x y zs ne) h

next_le : (k x : ℕ) → k ≤ x → k ≢ x → suc k ≤ x
next_le k x le ne = omega arith

one_le : (x : ℕ) → x ≢ 0 → 1 ≤ x
one_le x ne = omega arith

pub has-numbers_from : (x k n : ℕ) → k ≤ x → x < k + n → has x (numbers_from k n) ≡ true
has-numbers_from x k zero le lt = absurd (omega arith)
has-numbers_from x k (suc n) le lt = dite (ℕ_discrete x k) (λ e. or_left (eqb x k) (has x (numbers_from (suc k) n)) (eq-eqb x k e))
    (λ ne. or_right (eqb x k) (has x (numbers_from (suc k) n)) (has-numbers_from x (suc k) n (next_le k x le (λ e. ne (sym e))) (omega arith)))

pub Begins-on : {E : Type 0} → (xs ys zs : List E) → Begins xs ys → Begins ys zs → Begins xs zs
Begins-on {E} xs ys zs a b = (a.0 ++ b.0, b.1 ∙ (ap (λ (l : List E). l ++ b.0) a.1 ∙ append_assoc xs a.0 b.0))

Begins-added : {E : Type 0} → (es : List E) (b : Bool) (e : E) → Begins es (added es b e)
Begins-added es true e = (e ∷ [], refl)
Begins-added es false e = ([], sym (append-nil es))

module _ {O T : Type 0} where
  pub Follows-stepped : {Y : Type 0} → (allows : O → List (ℕ × T) → ℕ → T → Y → Type 0) (records : O → T → Y → Bool) (o : O) (u v w : View O T) (x : T) (reply : Y) (front : ℕ)
      → Follows u v → Stepped allows records o v w x reply front → Follows u w
  Follows-stepped allows records o u v w x reply front f s = record {
    opening = ap (λ (z : View O T). z.opening) s.else_same ∙ f.opening;
    callers = ap (λ (z : View O T). z.callers) s.else_same ∙ f.callers;
    caller = ap (λ (z : View O T). z.caller) s.else_same ∙ f.caller;
    seen = subst (λ (es : List (ℕ × T)). Begins u.seen es) (sym s.seen_is) (Begins-on u.seen s.before _ (Begins-on u.seen v.seen s.before f.seen (s.others.0, s.others.1)) (Begins-added s.before _ _));
    owns = λ y h. subst (λ (z : View O T). Owns z y) (sym s.else_same) (f.owns y h);
  }

  -- a seat that was split for x, went on as a, and took in the new seat, which went on as b
  pub Follows-joined : (x : ℕ) (v a b : View O T) → has x v.spare ≡ true → Follows (left_view x v) a → Follows (right_view x v) b → Follows v (joined_view a b)
  Follows-joined x v a b mine f g = record {
    opening = f.opening;
    callers = f.callers;
    caller = f.caller;
    seen = elim (ltb (length a.seen) (length b.seen)) as (λ t. Begins v.seen (cond t b.seen a.seen)) [ true ↦ g.seen | false ↦ f.seen ];
    owns = λ y h. dite (ℕ_discrete y x)
        (λ e. or_right (eqb y a.caller) (has y (a.spare ++ b.spare) || has y ((a.retired ++ b.caller ∷ []) ++ b.retired)) (or_right (has y (a.spare ++ b.spare)) (has y ((a.retired ++ b.caller ∷ []) ++ b.retired))
        (has-append_left y (a.retired ++ b.caller ∷ []) b.retired (has-append_right y a.retired (b.caller ∷ []) (or_left (eqb y b.caller) false (eq-eqb y b.caller (e ∙ sym g.caller)))))))
        (λ ne.
        let there : Owns a y = f.owns y (⊎_elim (λ p. or_left (eqb y v.caller) (has y (without x v.spare) || has y v.retired) p)
        (λ p. or_right (eqb y v.caller) (has y (without x v.spare) || has y v.retired) (⊎_elim (λ q. or_left (has y (without x v.spare)) (has y v.retired) (has-without x y v.spare ne q)) (λ q. or_right (has y (without x v.spare)) (has y v.retired) q) (or_cases (has y v.spare) (has y v.retired) p)))
        (or_cases (eqb y v.caller) (has y v.spare || has y v.retired) h)) in
        ⊎_elim (λ p. or_left (eqb y a.caller) (has y (a.spare ++ b.spare) || has y ((a.retired ++ b.caller ∷ []) ++ b.retired)) p)
        (λ p. or_right (eqb y a.caller) (has y (a.spare ++ b.spare) || has y ((a.retired ++ b.caller ∷ []) ++ b.retired))
        (⊎_elim (λ q. or_left (has y (a.spare ++ b.spare)) (has y ((a.retired ++ b.caller ∷ []) ++ b.retired)) (has-append_left y a.spare b.spare q))
        (λ q. or_right (has y (a.spare ++ b.spare)) (has y ((a.retired ++ b.caller ∷ []) ++ b.retired)) (has-append_left y (a.retired ++ b.caller ∷ []) b.retired (has-append_left y a.retired (b.caller ∷ []) q)))
        (or_cases (has y a.spare) (has y a.retired) p)))
        (or_cases (eqb y a.caller) (has y a.spare || has y a.retired) there));
  }

  -- the first seat has all callers again where what it handed over was joined
  pub all_of_first : (o : O) (es : List (ℕ × T)) (n : ℕ) (v w : View O T) → v ≡ first_view o es n → Follows v w → HasAllCallers w
  all_of_first o es n v w is f x lt =
      let callers : w.callers ≡ n = f.callers ∙ ap (λ (u : View O T). u.callers) is in
      f.owns x (subst (λ (u : View O T). Owns u x) (sym is) (dite (ℕ_discrete x 0)
      (λ z. or_left (eqb x 0) (has x (numbers_from 1 (n - 1)) || false) (eq-eqb x 0 z))
      (λ ne. or_right (eqb x 0) (has x (numbers_from 1 (n - 1)) || false) (or_left (has x (numbers_from 1 (n - 1))) false (has-numbers_from x 1 (n - 1) (one_le x ne) (omega arith))))))
