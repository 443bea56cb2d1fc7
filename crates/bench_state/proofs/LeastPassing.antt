-- The least ticket that passes a test.
use Rattle.std.proofs.Common.{arith, ◌≡◌, ◌<◌, ◌≤◌, Bool, true, false, cond, nat_lt, ℕ, List, length, slice_index_or, position, Some, None, refl, sym, ap, ◌∙◌}
use Rattle.std.specs.List.{position_or_len}
use Rattle.std.proofs.lemmas.Bool.Decides.{nat_tests}
use Rattle.std.proofs.lemmas.List.{get_or_past}
use Rattle.std.proofs.lemmas.List.Sums.{position_or_len_is, fails_before_first}
use Rattle.desk_law.specs.declared.ticket.Ticket.{Ticket}
use Rattle.desk_law.specs.Desk.{no_ticket}

abbrev pub at : List Ticket → ℕ → Ticket
at ks t = slice_index_or ks t no_ticket

below : (t n : ℕ) → t < n → nat_lt t n ≡ true
below t n l = grind (arith, nat_tests, l)

not-below : (n : ℕ) → nat_lt n n ≡ false
not-below n = grind (arith, nat_tests)

pub least_at : (p : Ticket → Bool) (ks : List Ticket) (t : ℕ) → t < length ks → ((k : ℕ) → k < t → p (at ks k) ≡ false) → p (at ks t) ≡ true → position p ks ≡ Some t
least_at p ks t l before here =
    ap (λ (n : ℕ). cond (nat_lt n (length ks)) (Some n) None) (position_or_len_is p ks t no_ticket (omega (arith, l)) before (λ m. here))
    ∙ ap (λ (b : Bool). cond b (Some t) None) (below t (length ks) l)

pub least_none : (p : Ticket → Bool) (ks : List Ticket) → ((k : ℕ) → k < length ks → p (at ks k) ≡ false) → position p ks ≡ None
least_none p ks before =
    ap (λ (n : ℕ). cond (nat_lt n (length ks)) (Some n) None) (position_or_len_is p ks (length ks) no_ticket (omega arith) before (λ m. absurd (omega (arith, m))))
    ∙ ap (λ (b : Bool). cond b (Some (length ks)) None) (not-below (length ks))

-- ---- where there is none

past : (n len : ℕ) → cond (nat_lt n len) (Some n) None ≡ None → len ≤ n
past n len e = by (nat_lt n len) refl
  where
    by : (b : Bool) → nat_lt n len ≡ b → len ≤ n
    by true h = let c : Some n ≡ None = sym (ap (λ (b : Bool). cond b (Some n) None) h) ∙ e in absurd cc
    by false h = grind (arith, nat_tests, h)

pub none_passes : (p : Ticket → Bool) (ks : List Ticket) (t : ℕ) → position p ks ≡ None → p no_ticket ≡ false → p (at ks t) ≡ false
none_passes p ks t e f = by (nat_lt t (length ks)) refl
  where
    by : (b : Bool) → nat_lt t (length ks) ≡ b → p (at ks t) ≡ false
    by true h =
        let l : t < length ks = grind (arith, nat_tests, h) in
        let q : length ks ≤ position_or_len p ks = past (position_or_len p ks) (length ks) e in
        fails_before_first p ks t no_ticket (omega (arith, l, q))
    by false h =
        let l : length ks ≤ t = grind (arith, nat_tests, h) in
        ap p (get_or_past ks t no_ticket l) ∙ f

-- what passes was built
pub passes_within : (p : Ticket → Bool) (ks : List Ticket) (t : ℕ) → p (at ks t) ≡ true → p no_ticket ≡ false → t < length ks
passes_within p ks t e f = by (nat_lt t (length ks)) refl
  where
    by : (b : Bool) → nat_lt t (length ks) ≡ b → t < length ks
    by true h = grind (arith, nat_tests, h)
    by false h =
        let l : length ks ≤ t = grind (arith, nat_tests, h) in
        let c : true ≡ false = sym e ∙ ap p (get_or_past ks t no_ticket l) ∙ f in
        absurd cc
