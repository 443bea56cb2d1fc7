-- A log that grows by entries of live tickets of its unit and by Clears stays within its room.
use Rattle.std.proofs.Common.{◌≡◌, ℕ, zero, suc, ◌+◌, ◌≤◌, ◌<◌, Bool, true, false, List, [], ◌∷◌, ◌++◌, length, refl, arith, subst, nat_lt, cond}
use Rattle.std.specs.Prelude.{◌==◌, fold}
use Rattle.unit_law.specs.declared.entry.LogEntry.{LogEntry}
use Rattle.unit_law.specs.declared.entry.LogEntry.TheVariants.{Refuse, Look, End, Drop, Clear, Sense}
use Rattle.unit_law.specs.Log.{Tally, tally, noted, if_of}
use Rattle.unit_law.proofs.Views.{IsOf, tally-push}
use Rattle.target_law.specs.Session.{Task}
use Rattle.target_law.specs.Target.{LogicalUnit, by_tag, drops, drops_by, unit_reset}
use Rattle.logs_have_room.specs.Room.{IsFew, IsReserved, left, total}
use Rattle.logs_have_room.proofs.Room.{reserved-entry, reserved-clear}

-- it gets so many Clears, and entries of tickets that live, each below `built`
pub data GrowsBy (live : ℕ → Bool) (built : ℕ) : ℕ → List LogEntry → List LogEntry → Type 0 where
  same : {log : List LogEntry} → GrowsBy live built 0 log log
  entry : {clears : ℕ} {log new : List LogEntry} (y : ℕ) (e : LogEntry) → IsOf y e → y < built → live y ≡ true → GrowsBy live built clears (log ++ e ∷ []) new → GrowsBy live built clears log new
  clear : {clears : ℕ} {log new : List LogEntry} → GrowsBy live built clears (log ++ Clear ∷ []) new → GrowsBy live built (suc clears) log new

-- ---- a ticket that has few entries had few before
few-before : (limit : ℕ) (b : Bool) (new old : Tally) → IsFew limit (if_of b new old) → (IsFew limit new → IsFew limit old) → IsFew limit old
few-before limit true new old f g = g f
few-before limit false new old f g = f

few-noted : (limit x : ℕ) (k : Tally) (e : LogEntry) → IsFew limit (noted x k e) → IsFew limit k
few-noted limit x k (Refuse t s) f = few-before limit (t == x) _ k f (λ h. let r = h.refusals in record { refusals = omega arith; looks = h.looks; closes = h.closes; senses = h.senses })
few-noted limit x k (Look t) f = few-before limit (t == x) _ k f (λ h. let r = h.looks in record { refusals = h.refusals; looks = omega arith; closes = h.closes; senses = h.senses })
few-noted limit x k (End t) f = few-before limit (t == x) _ k f (λ h. let r = h.closes in record { refusals = h.refusals; looks = h.looks; closes = omega arith; senses = h.senses })
few-noted limit x k (Drop t high) f = few-before limit (t == x) _ k f (λ h. let r = h.closes in record { refusals = h.refusals; looks = h.looks; closes = omega arith; senses = h.senses })
few-noted limit x k Clear f = record { refusals = f.refusals; looks = f.looks; closes = f.closes; senses = f.senses }
few-noted limit x k (Sense t) f = few-before limit (t == x) _ k f (λ h. let r = h.senses in record { refusals = h.refusals; looks = h.looks; closes = h.closes; senses = omega arith })

few-pushed : (limit x : ℕ) (log : List LogEntry) (e : LogEntry) → IsFew limit (tally x (log ++ e ∷ [])) → IsFew limit (tally x log)
few-pushed limit x log e f = few-noted limit x (tally x log) e (subst (IsFew limit) (tally-push x log e) f)

few-grown : (live : ℕ → Bool) (built limit x clears : ℕ) (log new : List LogEntry) → GrowsBy live built clears log new → IsFew limit (tally x new) → IsFew limit (tally x log)
few-grown live built limit x clears log new same f = f
few-grown live built limit x clears log new (entry y e i l a r) f = few-pushed limit x log e (few-grown live built limit x clears (log ++ e ∷ []) new r f)
few-grown live built limit x (suc clears) log new (clear r) f = few-pushed limit x log Clear (few-grown live built limit x clears (log ++ Clear ∷ []) new r f)

-- ---- so room for all that may come yet is left
grown-reserved : (live : ℕ → Bool) (built limit clears : ℕ) (log new : List LogEntry) → GrowsBy live built clears log new → ((x : ℕ) → live x ≡ true → IsFew limit (tally x new)) → (room : ℕ)
    → IsReserved limit live built log room → IsReserved limit live built new (room + clears)
grown-reserved live built limit clears log new same f room s = omega (arith, s)
grown-reserved live built limit clears log new (entry y e i l a r) f room s =
    grown-reserved live built limit clears (log ++ e ∷ []) new r f room
    (reserved-entry limit live built room log s y l a e i (few-grown live built limit y clears (log ++ e ∷ []) new r (f y a)))
grown-reserved live built limit (suc clears) log new (clear r) f room s =
    let more = grown-reserved live built limit clears (log ++ Clear ∷ []) new r f (room + 1) (reserved-clear limit live built room log s) in
    omega (arith, more)

-- with as much to spare
pub grown-spare : (live : ℕ → Bool) (built limit clears : ℕ) (log new : List LogEntry) → GrowsBy live built clears log new → ((x : ℕ) → live x ≡ true → IsFew limit (tally x new)) → (room spare : ℕ)
    → length log + total (λ x. left limit (live x) (tally x log)) built + (spare + clears) ≤ room → length new + total (λ x. left limit (live x) (tally x new)) built + spare ≤ room
grown-spare live built limit clears log new r f room spare s =
    let more = grown-reserved live built limit clears log new r f (length log + total (λ x. left limit (live x) (tally x log)) built) (omega arith) in
    omega (arith, s, more)

-- ---- fewer tickets that live need no more
total-less : (f h : ℕ → ℕ) (n : ℕ) → ((y : ℕ) → y < n → f y ≤ h y) → total f n ≤ total h n
total-less f h zero e = omega arith
total-less f h (suc n) e = omega (arith, total-less f h n (λ y l. e y (omega arith)), e n (omega arith))

left-less : (limit : ℕ) (b c : Bool) (k : Tally) → (b ≡ true → c ≡ true) → left limit b k ≤ left limit c k
left-less limit true true k f = omega arith
left-less limit true false k f = let z : false ≡ true = f refl in cc
left-less limit false c k f = omega arith

pub fewer-live : (limit built : ℕ) (old new : ℕ → Bool) (log : List LogEntry) → ((x : ℕ) → x < built → new x ≡ true → old x ≡ true)
    → total (λ x. left limit (new x) (tally x log)) built ≤ total (λ x. left limit (old x) (tally x log)) built
fewer-live limit built old new log f = total-less _ _ built (λ y l. left-less limit (new y) (old y) (tally y log) (f y l))

-- ---- a reset of a unit
abbrev pub MayDrop : (live : ℕ → Bool) (built : ℕ) → Task → Type 0
MayDrop live built k = k.senses ≡ false → (k.ticket < built) × (live k.ticket ≡ true)

abbrev pub EachMayDrop : (live : ℕ → Bool) (built : ℕ) → List Task → Type 0
EachMayDrop live built [] = Unit {0}
EachMayDrop live built (k ∷ ks) = MayDrop live built k × EachMayDrop live built ks

drop-grown : (live : ℕ → Bool) (built clears : ℕ) (b : Bool) (w : LogicalUnit) (k : Task) (new : List LogEntry) → k.senses ≡ b → MayDrop live built k → GrowsBy live built clears (drops_by b w k).log new
    → GrowsBy live built clears w.log new
drop-grown live built clears true w k new e m r = r
drop-grown live built clears false w k new e m r = let d = m e in entry k.ticket (Drop k.ticket k.high) refl d.0 d.1 r

drops-grown : (live : ℕ → Bool) (built clears : ℕ) (ks : List Task) (w : LogicalUnit) (new : List LogEntry) → EachMayDrop live built ks → GrowsBy live built clears (fold drops w ks).log new
    → GrowsBy live built clears w.log new
drops-grown live built clears [] w new m r = r
drops-grown live built clears (k ∷ ks) w new m r = drop-grown live built clears k.senses w k new refl m.0 (drops-grown live built clears ks (drops w k) new m.1 r)

pub reset-grown : (live : ℕ → Bool) (built : ℕ) (w : LogicalUnit) → EachMayDrop live built w.tasks → GrowsBy live built 1 w.log (unit_reset w).log
unfolding unit_reset
reset-grown live built w m = drops-grown live built 1 w.tasks w _ m (clear same)

may-by : (live : ℕ → Bool) (built : ℕ) (b : Bool) (k y : Task) (ys zs : List Task) → EachMayDrop live built (k ∷ y ∷ ys) → EachMayDrop live built (y ∷ zs) → EachMayDrop live built (cond b (k ∷ (y ∷ ys)) (y ∷ zs))
may-by live built true k y ys zs f h = f
may-by live built false k y ys zs f h = h

pub may-by_tag : (live : ℕ → Bool) (built : ℕ) (k : Task) (ys : List Task) → MayDrop live built k → EachMayDrop live built ys → EachMayDrop live built (by_tag k ys)
unfolding by_tag
may-by_tag live built k [] f m = (f, tt)
may-by_tag live built k (y ∷ ys) f m = may-by live built (nat_lt k.tag y.tag) k y ys (by_tag k ys) (f, m) (m.0, may-by_tag live built k ys f m.1)
