-- Room for the entries of a log.
use Rattle.std.proofs.Common.{◌≡◌, ◌≢◌, ℕ, zero, suc, ◌+◌, ◌-◌, ◌≤◌, ◌<◌, Bool, true, false, List, [], ◌∷◌, ◌++◌, length, length-append, refl, ap, arith, sym, ◌∙◌, ◌⊎◌, inl, inr}
use Rattle.unit_law.specs.declared.entry.LogEntry.{LogEntry}
use Rattle.unit_law.specs.declared.entry.LogEntry.TheVariants.{Refuse, Look, End, Drop, Clear, Sense}
use Rattle.unit_law.specs.Log.{Tally, tally, noted, with_at}
use Rattle.unit_law.proofs.Views.{IsOf, tally-push, tally-other, same_or_not, eq-test, with_at-same, with_at-other, tally-refuse, tally-look, tally-end, tally-drop, tally-sense}
use Rattle.scsi_words.specs.declared.statuses.kinds.Status.{Status}
use Rattle.logs_have_room.specs.Room.{entries, IsFew, MayAdd, refuses, looks, ends, drops, senses, left, total, IsReserved}
use Rattle.logs_have_room.specs.Laws.{RoomIsReserved, TicketsHaveRoom}

-- one more entry of the ticket
one-more : (t : ℕ) (k : Tally) (e : LogEntry) → IsOf t e → entries (noted t k e) ≡ entries k + 1
one-more t k (Refuse x s) i = rw (i, eq-test t) (omega arith)
one-more t k (Look x) i = rw (i, eq-test t) (omega arith)
one-more t k (End x) i = rw (i, eq-test t) (omega arith)
one-more t k (Drop x high) i = rw (i, eq-test t) (omega arith)
one-more t k Clear i = absurd i
one-more t k (Sense x) i = rw (i, eq-test t) (omega arith)

few-entries : (limit : ℕ) (k : Tally) → IsFew limit k → entries k ≤ limit + 3
few-entries limit k f = omega (arith, f.refusals, f.looks, f.closes, f.senses)

-- sums
same-total : (f h : ℕ → ℕ) (n : ℕ) → ((y : ℕ) → y < n → f y ≡ h y) → total f n ≡ total h n
same-total f h zero e = refl
same-total f h (suc n) e = omega (arith, same-total f h n (λ y l. e y (omega arith)), e n (omega arith))

one-total : (f h : ℕ → ℕ) (x n : ℕ) → x < n → ((y : ℕ) → y ≢ x → f y ≡ h y) → (x ≡ n - 1) ⊎ (x ≢ n - 1) → total f n + h x ≡ total h n + f x
one-total f h x zero l e d = absurd (omega arith)
one-total f h x (suc n) l e (inl q) =
    let at : n ≡ x = omega arith in
    let s : total f n ≡ total h n = same-total f h n (λ y m. e y (λ z. absurd (omega arith))) in
    let a : f n ≡ f x = ap f at in
    let b : h n ≡ h x = ap h at in
    omega arith
one-total f h x (suc n) l e (inr d) =
    let m : x < n = omega arith in
    let s = one-total f h x n m e (same_or_not x (n - 1)) in
    let a : f n ≡ h n = e n (λ z. absurd (omega arith)) in
    omega arith

within-total : (f : ℕ → ℕ) (x n : ℕ) → x < n → (x ≡ n - 1) ⊎ (x ≢ n - 1) → f x ≤ total f n
within-total f x zero l d = absurd (omega arith)
within-total f x (suc n) l (inl q) = let at : n ≡ x = omega arith in omega (arith, ap f at)
within-total f x (suc n) l (inr d) = omega (arith, within-total f x n (omega arith) (same_or_not x (n - 1)))

left-live : (limit : ℕ) (b : Bool) (k : Tally) → b ≡ true → left limit b k ≡ limit + 3 - entries k
left-live limit true k e = refl
left-live limit false k e = cc

module _ (limit : ℕ) (live : ℕ → Bool) (built room : ℕ) (log : List LogEntry) (s : IsReserved limit live built log room) (x : ℕ) (l : x < built) (alive : live x ≡ true) where
  abbrev f : ℕ → ℕ
  f t = left limit (live t) (tally t log)

  -- a ticket that may still add an entry has room for it
  pub has-room : entries (tally x log) < limit + 3 → length log + 1 ≤ room
  has-room h = omega (arith, within-total f x built l (same_or_not x (built - 1)), left-live limit (live x) (tally x log) alive)

  -- one more entry of it
  pub reserved-entry : (e : LogEntry) → IsOf x e → IsFew limit (tally x (log ++ e ∷ [])) → IsReserved limit live built (log ++ e ∷ []) room
  reserved-entry e i few =
      let h : ℕ → ℕ = λ t. left limit (live t) (tally t (log ++ e ∷ [])) in
      let others : (y : ℕ) → y ≢ x → f y ≡ h y = λ y d. ap (left limit (live y)) (sym (tally-other y x log e i d)) in
      let sums : total f built + h x ≡ total h built + f x = one-total f h x built l others (same_or_not x (built - 1)) in
      let more : entries (tally x (log ++ e ∷ [])) ≡ entries (tally x log) + 1 = ap entries (tally-push x log e) ∙ one-more x (tally x log) e i in
      let most = few-entries limit (tally x (log ++ e ∷ [])) few in
      let new = left-live limit (live x) (tally x (log ++ e ∷ [])) alive in
      let old = left-live limit (live x) (tally x log) alive in
      let size : length (log ++ e ∷ []) ≡ length log + 1 = length-append log (e ∷ []) in
      omega arith

-- a Clear counts for nobody
clear-left : (limit : ℕ) (b : Bool) (k : Tally) → left limit b (noted 0 k Clear) ≡ left limit b k
clear-left limit true k = refl
clear-left limit false k = refl

pub reserved-clear : (limit : ℕ) (live : ℕ → Bool) (built room : ℕ) (log : List LogEntry) → IsReserved limit live built log room → IsReserved limit live built (log ++ Clear ∷ []) (room + 1)
reserved-clear limit live built room log s =
    let same = same-total (λ t. left limit (live t) (tally t (log ++ Clear ∷ []))) (λ t. left limit (live t) (tally t log)) built
    (λ y l. ap (left limit (live y)) (tally-push y log Clear) ∙ clear-left limit (live y) (tally y log)) in
    let size : length (log ++ Clear ∷ []) ≡ length log + 1 = length-append log (Clear ∷ []) in
    omega arith

-- a ticket is built: the log is given room for it
pub reserved-build : (limit : ℕ) (live : ℕ → Bool) (built room : ℕ) (log : List LogEntry) → IsReserved limit live built log room → IsReserved limit live (suc built) log (room + (limit + 3))
reserved-build limit live built room log s =
    let most : left limit (live built) (tally built log) ≤ limit + 3 = at (live built) in omega arith
  where
    at : (b : Bool) → left limit b (tally built log) ≤ limit + 3
    at true = omega arith
    at false = omega arith

-- each entry that a task logs leaves its ticket with few entries
module _ (limit t : ℕ) (log : List LogEntry) (f : IsFew limit (tally t log)) where
  pub few-refuse : (s : Status) → (tally t log).refusals < limit → IsFew limit (tally t (log ++ Refuse t s ∷ []))
  few-refuse s l = rw (tally-refuse t s log) (record { refusals = omega arith; looks = f.looks; closes = f.closes; senses = f.senses })

  pub few-look : (tally t log).looks ≡ 0 → IsFew limit (tally t (log ++ Look t ∷ []))
  few-look z = rw (tally-look t log) (record { refusals = f.refusals; looks = omega arith; closes = f.closes; senses = f.senses })

  pub few-end : (tally t log).ends ≡ 0 → (tally t log).drops ≡ 0 → IsFew limit (tally t (log ++ End t ∷ []))
  few-end z y = rw (tally-end t log) (record { refusals = f.refusals; looks = f.looks; closes = omega arith; senses = f.senses })

  pub few-drop : (high : ℕ) → (tally t log).ends ≡ 0 → (tally t log).drops ≡ 0 → IsFew limit (tally t (log ++ Drop t high ∷ []))
  few-drop high z y = rw (tally-drop t high log) (record { refusals = f.refusals; looks = f.looks; closes = omega arith; senses = f.senses })

  pub few-sense : (tally t log).senses ≡ 0 → IsFew limit (tally t (log ++ Sense t ∷ []))
  few-sense z = rw (tally-sense t log) (record { refusals = f.refusals; looks = f.looks; closes = f.closes; senses = omega arith })

of-ticket : (limit t : ℕ) (k : Tally) (e : LogEntry) → MayAdd limit t k e → IsOf t e
of-ticket limit t k e (refuses s l) = refl
of-ticket limit t k e (looks z) = refl
of-ticket limit t k e (ends z y) = refl
of-ticket limit t k e (drops high z y) = refl
of-ticket limit t k e (senses z) = refl

few-after : (limit t : ℕ) (log : List LogEntry) → IsFew limit (tally t log) → (e : LogEntry) → MayAdd limit t (tally t log) e → IsFew limit (tally t (log ++ e ∷ []))
few-after limit t log f e (refuses s l) = few-refuse limit t log f s l
few-after limit t log f e (looks z) = few-look limit t log f z
few-after limit t log f e (ends z y) = few-end limit t log f z y
few-after limit t log f e (drops high z y) = few-drop limit t log f high z y
few-after limit t log f e (senses z) = few-sense limit t log f z

pub tickets-have-room : TicketsHaveRoom
tickets-have-room limit live built room log s x l alive f e m =
    let i = of-ticket limit x (tally x log) e m in
    let few = few-after limit x log f e m in
    let more : entries (tally x (log ++ e ∷ [])) ≡ entries (tally x log) + 1 = ap entries (tally-push x log e) ∙ one-more x (tally x log) e i in
    let most = few-entries limit (tally x (log ++ e ∷ [])) few in
    record {
      place = let h = has-room limit live built room log s x l alive (omega arith) in omega arith;
      few = few;
      reserved = reserved-entry limit live built room log s x l alive e i few;
    }

-- a ticket that is freed adds nothing more
reserved-free : (limit : ℕ) (live : ℕ → Bool) (built room : ℕ) (log : List LogEntry) → IsReserved limit live built log room → (x : ℕ) → x < built → IsReserved limit (with_at live x false) built log room
reserved-free limit live built room log s x l =
    let f : ℕ → ℕ = λ t. left limit (live t) (tally t log) in
    let h : ℕ → ℕ = λ t. left limit (with_at live x false t) (tally t log) in
    let others : (y : ℕ) → y ≢ x → f y ≡ h y = λ y d. ap (λ b. left limit b (tally y log)) (sym (with_at-other live x false y d)) in
    let sums : total f built + h x ≡ total h built + f x = one-total f h x built l others (same_or_not x (built - 1)) in
    let none : h x ≡ 0 = ap (λ b. left limit b (tally x log)) (with_at-same live x false) in
    omega arith

pub room-is-reserved : RoomIsReserved
room-is-reserved = record {
  opened = λ limit live. omega arith;
  built = reserved-build;
  cleared = reserved-clear;
  freed = reserved-free;
}
