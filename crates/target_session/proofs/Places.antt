-- The word of a lawful move names it.
use Rattle.std.proofs.Common.{◌≡◌, ℕ, zero, suc, ◌+◌, ◌-◌, ◌*◌, ◌/◌, ◌≤◌, ◌<◌, ◌%◌, Bool, true, false, List, [], ◌∷◌, length, refl, ap, arith, Some, cond, nat_eq, nat_lt, ◌&&◌, not}
use Rattle.std.specs.Prelude.{slice_get}
use Rattle.std.proofs.Math.Nat.{mod-eq_of_lt}
use Rattle.std.proofs.lemmas.Bool.Decides.{nat_tests}
use Rattle.target_law.specs.declared.moves.Move.{Move}
use Rattle.target_law.specs.declared.moves.Move.TheVariants.{Go, Busy, QueueFull, Leave, SaveLeave, Save, Restore, Rogue}
use Rattle.target_law.specs.Session.{Session, remaining, Can, CanRefuse}
use Rattle.target_law.specs.Choice.{Names, offers, offered, index, can_go, can_refuse, can_spend, go_bytes}
use Rattle.target_law.specs.Sound.{IsSound}
use Rattle.unit_task.proofs.SoundTasks.{total-most}
use Rattle.target_session.specs.Words.{place_of, low_of}

-- a move stands in the list where its kind is lawful
abbrev Stands : Move → (go refuse spend : Bool) → ℕ → Type 0
Stands (Go k) go refuse spend n = (go ≡ true) × (n ≡ k)
Stands Busy go refuse spend n = refuse ≡ true
Stands QueueFull go refuse spend n = refuse ≡ true
Stands Leave go refuse spend n = spend ≡ true
Stands SaveLeave go refuse spend n = spend ≡ true
Stands Save go refuse spend n = spend ≡ true
Stands Restore go refuse spend n = spend ≡ true
Stands (Rogue word) go refuse spend n = ⊥

at-go : (go refuse spend : Bool) (n k : ℕ) → go ≡ true → n ≡ k → slice_get (offers go refuse spend n) 0 ≡ Some (Go k)
at-go true refuse spend n k h e = ap (λ x. Some (Go x)) e
at-go false refuse spend n k h e = cc

at-busy : (go refuse spend : Bool) (n : ℕ) → refuse ≡ true → slice_get (offers go refuse spend n) (place_of Busy go refuse) ≡ Some Busy
at-busy true true spend n h = refl
at-busy false true spend n h = refl
at-busy go false spend n h = cc

at-full : (go refuse spend : Bool) (n : ℕ) → refuse ≡ true → slice_get (offers go refuse spend n) (place_of QueueFull go refuse) ≡ Some QueueFull
at-full true true spend n h = refl
at-full false true spend n h = refl
at-full go false spend n h = cc

at-leave : (go refuse spend : Bool) (n : ℕ) → spend ≡ true → slice_get (offers go refuse spend n) (place_of Leave go refuse) ≡ Some Leave
at-leave true true true n h = refl
at-leave true false true n h = refl
at-leave false true true n h = refl
at-leave false false true n h = refl
at-leave go refuse false n h = cc

at-save_leave : (go refuse spend : Bool) (n : ℕ) → spend ≡ true → slice_get (offers go refuse spend n) (place_of SaveLeave go refuse) ≡ Some SaveLeave
at-save_leave true true true n h = refl
at-save_leave true false true n h = refl
at-save_leave false true true n h = refl
at-save_leave false false true n h = refl
at-save_leave go refuse false n h = cc

at-save : (go refuse spend : Bool) (n : ℕ) → spend ≡ true → slice_get (offers go refuse spend n) (place_of Save go refuse) ≡ Some Save
at-save true true true n h = refl
at-save true false true n h = refl
at-save false true true n h = refl
at-save false false true n h = refl
at-save go refuse false n h = cc

at-restore : (go refuse spend : Bool) (n : ℕ) → spend ≡ true → slice_get (offers go refuse spend n) (place_of Restore go refuse) ≡ Some Restore
at-restore true true true n h = refl
at-restore true false true n h = refl
at-restore false true true n h = refl
at-restore false false true n h = refl
at-restore go refuse false n h = cc

at-place : (m : Move) (go refuse spend : Bool) (n : ℕ) → Stands m go refuse spend n → slice_get (offers go refuse spend n) (place_of m go refuse) ≡ Some m
at-place (Go k) go refuse spend n h = at-go go refuse spend n k h.0 h.1
at-place Busy go refuse spend n h = at-busy go refuse spend n h
at-place QueueFull go refuse spend n h = at-full go refuse spend n h
at-place Leave go refuse spend n h = at-leave go refuse spend n h
at-place SaveLeave go refuse spend n h = at-save_leave go refuse spend n h
at-place Save go refuse spend n h = at-save go refuse spend n h
at-place Restore go refuse spend n h = at-restore go refuse spend n h
at-place (Rogue word) go refuse spend n h = absurd h

within : (ms : List Move) (i : ℕ) (m : Move) → slice_get ms i ≡ Some m → i < length ms
within [] i m h = cc
within (x ∷ ms) zero m h = omega arith
within (x ∷ ms) (suc i) m h = let l = within ms i m h in omega arith

-- where a move is lawful, its kind is
go-test : (a : Bool) (r : ℕ) → (a ≡ true → r ≡ 0) → not (a && nat_lt 0 r) ≡ true
go-test false r f = refl
go-test true r f = let e : r ≡ 0 = f refl in grind (arith, nat_tests)

sized : (b r low n : ℕ) → (0 < r → 0 < n) → n ≤ r → (b ≡ 0 → n ≡ r) → low ≡ n - 1 → cond (nat_eq b 0) r (cond (nat_eq r 0) 0 (1 + low % r)) ≡ n
sized b r low n f m g e = grind (arith, nat_tests, mod-eq_of_lt)

refuse-test : (s : Session) (limit refused : ℕ) → CanRefuse s limit refused → can_refuse s limit refused ≡ true
refuse-test s limit refused h =
    let l = h.few in
    let t : nat_lt refused limit ≡ true = grind (arith, nat_tests) in
    rw (h.fresh, h.plain) t

spend-test : (b : ℕ) → 0 < b → nat_lt 0 b ≡ true
spend-test b h = grind (arith, nat_tests)

stands : (m : Move) (s : Session) (limit refused word : ℕ) → word % 16777216 ≡ low_of m → Can m s limit refused → Stands m (can_go s) (can_refuse s limit refused) (can_spend s) (go_bytes s word)
stands (Go n) s limit refused word e h = (go-test s.task.just_moved (remaining s) h.turn, sized s.task.budget (remaining s) (word % 16777216) n h.some h.most h.all e)
stands Busy s limit refused word e h = refuse-test s limit refused h
stands QueueFull s limit refused word e h = refuse-test s limit refused h
stands Leave s limit refused word e h = spend-test s.task.budget h
stands SaveLeave s limit refused word e h = spend-test s.task.budget h
stands Save s limit refused word e h = spend-test s.task.budget h
stands Restore s limit refused word e h = spend-test s.task.budget h
stands (Rogue w) s limit refused word e h = absurd h

-- the low bits of its word are few
pub low-most : (m : Move) (s : Session) (limit refused : ℕ) → IsSound s → Can m s limit refused → low_of m < 65536
low-most (Go n) s limit refused i h = let t = total-most s.unit s.task i.task in let m = h.most in omega arith
low-most Busy s limit refused i h = omega arith
low-most QueueFull s limit refused i h = omega arith
low-most Leave s limit refused i h = omega arith
low-most SaveLeave s limit refused i h = omega arith
low-most Save s limit refused i h = omega arith
low-most Restore s limit refused i h = omega arith
low-most (Rogue w) s limit refused i h = omega arith

-- so the word of its place and its low bits names it
pub word-names : (m : Move) (s : Session) (limit refused place word : ℕ) → IsSound s → Can m s limit refused → place ≡ place_of m (can_go s) (can_refuse s limit refused) → place ≤ 6 → word ≡ 16777216 * place + low_of m
    → Names s limit refused word m
word-names m s limit refused place word i h e few w =
    let l = low-most m s limit refused i h in
    let low : word % 16777216 ≡ low_of m = omega arith in
    let high : word / 16777216 % 128 ≡ place = omega arith in
    let ms = offered s limit refused word in
    let g : slice_get ms place ≡ Some m = rw e (at-place m (can_go s) (can_refuse s limit refused) (can_spend s) (go_bytes s word) (stands m s limit refused word low h)) in
    let inside : place < length ms = within ms place m g in
    let at : index word (length ms) ≡ place = rw high (mod-eq_of_lt inside) in
    rw at g
