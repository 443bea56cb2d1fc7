-- The first ticket that passes a test which no freed ticket passes is looked for from the first that lives on.
use Rattle.std.proofs.Common.{arith, ◌≡◌, ◌<◌, ◌≤◌, ◌+◌, Bool, true, false, ℕ, zero, suc, List, [], ◌∷◌, length, position, take, count_by, slice_index_or, Some, None, refl, sym, subst, ◌∙◌}
use Rattle.desk_law.specs.declared.ticket.Ticket.{Ticket}
use Rattle.desk_law.specs.Desk.{DeskState, no_ticket, ticket, lives}
use Rattle.bench_state.specs.States.{BenchState}
use Rattle.bench_state.specs.Held.{live_before}
use Rattle.bench_state.proofs.CountLaws.{one_if, live_counted}
use Rattle.bench_state.proofs.LeastPassing.{least_at, least_none}

pub none_lives : (n : ℕ) (ks : List Ticket) → live_before n ks ≡ 0 → (k : ℕ) → k < n → lives (slice_index_or ks k no_ticket) ≡ false
none_lives zero ks e k l = absurd (omega (arith, l))
none_lives (suc n) [] e k l = refl
none_lives (suc n) (x ∷ xs) e zero l = of-zero (lives x) (count_by lives (take n xs)) (sym (live_counted x (take n xs)) ∙ e)
  where
    of-zero : (b : Bool) (m : ℕ) → one_if b + m ≡ 0 → b ≡ false
    of-zero true m h = absurd (omega (arith, h))
    of-zero false m h = refl
none_lives (suc n) (x ∷ xs) e (suc k) l =
    none_lives n xs (omega (arith, e, live_counted x (take n xs))) k (omega (arith, l))

abbrev pub FailsFreed : (Ticket → Bool) → Type 0
FailsFreed p = (k : Ticket) → lives k ≡ false → p k ≡ false

pub none_before : (p : Ticket → Bool) (b c : BenchState) (first : ℕ) → FailsFreed p → b ≡ c → live_before first b.world.desk.tickets ≡ 0
    → (k : ℕ) → k < first → p (ticket c.world.desk k) ≡ false
none_before p b c first freed e h =
    subst (λ (x : BenchState). (k : ℕ) → k < first → p (ticket x.world.desk k) ≡ false) e
    (λ k l. freed (ticket b.world.desk k) (none_lives first b.world.desk.tickets h k l))

pub first_passes : (p : Ticket → Bool) (d : DeskState) (t n : ℕ) → n ≡ length d.tickets → t < n → ((k : ℕ) → k < t → p (ticket d k) ≡ false) → p (ticket d t) ≡ true
    → position p d.tickets ≡ Some t
first_passes p d t n count l before here = least_at p d.tickets t (omega (arith, l, count)) before here

pub none_passes : (p : Ticket → Bool) (d : DeskState) (t n : ℕ) → n ≡ length d.tickets → n ≤ t → ((k : ℕ) → k < t → p (ticket d k) ≡ false) → position p d.tickets ≡ None
none_passes p d t n count all before = least_none p d.tickets (λ k l. before k (omega (arith, l, count, all)))
