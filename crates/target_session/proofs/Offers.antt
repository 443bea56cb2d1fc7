-- Each move that a word names is lawful.
use Rattle.std.proofs.Common.{◌≡◌, ℕ, zero, suc, ◌+◌, ◌≤◌, ◌<◌, ◌%◌, Bool, true, false, List, [], ◌∷◌, ◌++◌, refl, subst, arith, Some, cond, nat_eq, nat_lt, ◌&&◌, not, ◌⊎◌, inl, inr}
use Rattle.std.proofs.lemmas.Bool.{and_parts}
use Rattle.std.specs.Prelude.{slice_get}
use Rattle.std.proofs.lemmas.Bool.Decides.{nat_tests}
use Rattle.target_law.specs.declared.moves.Move.{Move}
use Rattle.target_law.specs.declared.moves.Move.TheVariants.{Go, Busy, QueueFull, Leave, SaveLeave, Save, Restore}
use Rattle.target_law.specs.Session.{Session, remaining, Can, CanRefuse}
use Rattle.target_law.specs.Choice.{Names, offered, if_can, can_go, can_refuse, can_spend, go_bytes, Choosable}

abbrev Each : (Move → Type 0) → List Move → Type 0
Each P [] = Unit {0}
Each P (m ∷ ms) = P m × Each P ms

each-at : (P : Move → Type 0) (ms : List Move) (i : ℕ) (m : Move) → Each P ms → slice_get ms i ≡ Some m → P m
each-at P [] i m e h = cc
each-at P (x ∷ ms) zero m e h = let q : x ≡ m = cc in subst P q e.0
each-at P (x ∷ ms) (suc i) m e h = each-at P ms i m e.1 h

each-append : (P : Move → Type 0) (xs ys : List Move) → Each P xs → Each P ys → Each P (xs ++ ys)
each-append P [] ys a b = b
each-append P (x ∷ xs) ys a b = (a.0, each-append P xs ys a.1 b)

each-if : (P : Move → Type 0) (b : Bool) (ms : List Move) → (b ≡ true → Each P ms) → Each P (if_can b ms)
each-if P true ms f = f refl
each-if P false ms f = tt

turn_of : (a : Bool) (n : ℕ) → not (a && nat_lt 0 n) ≡ true → a ≡ true → n ≡ 0
turn_of a n h e = grind (arith, nat_tests)

go-some : (b r w : ℕ) → 0 < r → 0 < cond (nat_eq b 0) r (cond (nat_eq r 0) 0 (1 + w % r))
go-some b r w h = grind (arith, nat_tests)

go-most : (b r w : ℕ) → cond (nat_eq b 0) r (cond (nat_eq r 0) 0 (1 + w % r)) ≤ r
go-most b r w = grind (arith, nat_tests)

go-all : (b r w : ℕ) → b ≡ 0 → cond (nat_eq b 0) r (cond (nat_eq r 0) 0 (1 + w % r)) ≡ r
go-all b r w h = grind (arith, nat_tests)

not-true : (a : Bool) → not a ≡ true → a ≡ false
not-true true e = cc
not-true false e = refl

lt_of : (a b : ℕ) → nat_lt a b ≡ true → a < b
lt_of a b e = grind (arith, nat_tests)

-- what a word names is lawful
pub names_can : (s : Session) (limit refused word : ℕ) (m : Move) → Names s limit refused word m → Can m s limit refused
names_can s limit refused word m h =
    let P : Move → Type 0 = λ x. Can x s limit refused in
    let go = each-if P (can_go s) (Go (go_bytes s word) ∷ []) (λ e. (
      record {
        turn = turn_of s.task.just_moved (remaining s) e;
        some = go-some s.task.budget (remaining s) (word % 16777216);
        most = go-most s.task.budget (remaining s) (word % 16777216);
        all = go-all s.task.budget (remaining s) (word % 16777216);
      },
      tt,
    )) in
    let refuse = each-if P (can_refuse s limit refused) (Busy ∷ QueueFull ∷ []) (λ e.
    let t = and_parts s.task.fresh (not s.task.senses && nat_lt refused limit) e in
    let u = and_parts (not s.task.senses) (nat_lt refused limit) t.1 in
    let can : CanRefuse s limit refused = record { fresh = t.0; plain = not-true s.task.senses u.0; few = lt_of refused limit u.1 } in
    (can, (can, tt))) in
    let spend = each-if P (can_spend s) (Leave ∷ SaveLeave ∷ Save ∷ Restore ∷ []) (λ e. let l = lt_of 0 s.task.budget e in (l, (l, (l, (l, tt))))) in
    each-at P (offered s limit refused word) _ m (each-append P _ _ go (each-append P _ _ refuse spend)) h

-- a sound task that is to choose has a lawful move
some-by : (a : Bool) (b r : ℕ) → (a ≡ true → b ≡ 0 → r ≡ 0) → (not (a && nat_lt 0 r) ≡ true) ⊎ (nat_lt 0 b ≡ true)
some-by false b r f = inl refl
some-by true zero r f = let e : r ≡ 0 = f refl refl in inl (grind (arith, nat_tests))
some-by true (suc b) r f = inr (grind (arith, nat_tests))

pub choosable_some : (s : Session) → Choosable s → (can_go s ≡ true) ⊎ (can_spend s ≡ true)
choosable_some s h = some-by s.task.just_moved s.task.budget (remaining s) h
