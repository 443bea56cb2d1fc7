-- Live tickets, counted, and signals that are due.
use Rattle.std.proofs.Common.{arith, ◌≡◌, ◌<◌, ◌≤◌, Bool, true, false, not, cond, nat_lt, ℕ, zero, suc, ◌+◌, ◌==◌, ◌||◌, List, [], ◌∷◌, length, slice_set, slice_index_or, take, Option, Some, None, unwrap_or, refl, sym, ap, ◌∙◌}
use Rattle.std.proofs.lemmas.Bool.{and_from, and_left, and_right}
use Rattle.std.proofs.lemmas.Bool.Decides.{nat_tests}
use Rattle.std.specs.List.{sum, count_by, list_any}
use Rattle.std.proofs.lemmas.List.Sums.{sum_by-cons}
use Rattle.desk_law.specs.declared.ticket.Ticket.{Ticket}
use Rattle.std.specs.Prelude.{IsSome}
use Rattle.bench_words.specs.Memory.{word_at}
use Rattle.desk_law.specs.Desk.{DeskState, no_ticket, ticket, lives, is_sensing, due}
use Rattle.desk_law.specs.Rings.{done_ticket}
use Rattle.desk_law.specs.Taking.{is_again, is_check, taken, takes}
use Rattle.driver_desk.specs.Conditions.{next_done}
use Rattle.driver_desk.proofs.Index.{taken_keeps}
use Rattle.world_law.specs.Lines.{none_due}
use Rattle.bench_state.specs.Held.{live_before}
use Rattle.bench_state.specs.Counting.{is_over, freed_count}
use Rattle.bench_state.proofs.TicketLaws.{done_is_live}

abbrev pub one_if : Bool → ℕ
one_if b = cond b 1 0

-- how many live, by the first ticket
pub live_counted : (k : Ticket) (ks : List Ticket) → count_by lives (k ∷ ks) ≡ one_if (lives k) + count_by lives ks
live_counted k ks = sum_by-cons (λ (x : Ticket). one_if (lives x)) k ks

pub live_count_stays : (ks : List Ticket) (t : ℕ) (k : Ticket) → lives k ≡ lives (slice_index_or ks t no_ticket) → count_by lives (slice_set ks t k) ≡ count_by lives ks
live_count_stays [] t k e = refl
live_count_stays (x ∷ xs) zero k e = omega (arith, live_counted k xs, live_counted x xs, ap (λ (b : Bool). one_if b) e)
live_count_stays (x ∷ xs) (suc t) k e = omega (arith, live_counted x (slice_set xs t k), live_counted x xs, live_count_stays xs t k e)

pub live_count_falls : (ks : List Ticket) (t : ℕ) (k : Ticket) → lives (slice_index_or ks t no_ticket) ≡ true → lives k ≡ false → count_by lives (slice_set ks t k) + 1 ≡ count_by lives ks
live_count_falls [] t k e f = absurd cc
live_count_falls (x ∷ xs) zero k e f = omega (arith, live_counted k xs, live_counted x xs, ap (λ (b : Bool). one_if b) e, ap (λ (b : Bool). one_if b) f)
live_count_falls (x ∷ xs) (suc t) k e f = omega (arith, live_counted x (slice_set xs t k), live_counted x xs, live_count_falls xs t k e f)

-- none of the first tickets lives, still
pub live_before_stays : (n : ℕ) (ks : List Ticket) (t : ℕ) (k : Ticket) → lives k ≡ lives (slice_index_or ks t no_ticket)
    → live_before n (slice_set ks t k) ≡ live_before n ks
live_before_stays zero ks t k e = refl
live_before_stays (suc n) [] t k e = refl
live_before_stays (suc n) (x ∷ xs) zero k e = omega (arith, live_counted k (take n xs), live_counted x (take n xs), ap (λ (b : Bool). one_if b) e)
live_before_stays (suc n) (x ∷ xs) (suc t) k e =
    omega (arith, live_counted x (take n (slice_set xs t k)), live_counted x (take n xs), live_before_stays n xs t k e)

-- a ticket lives, or it is freed
pub freed_or_live : (ks : List Ticket) → freed_count ks + count_by lives ks ≡ length ks
freed_or_live [] = refl
freed_or_live (k ∷ ks) = omega (arith, live_counted k ks, sum_by-cons (λ (x : Ticket). one_if (is_over x)) k ks, freed_or_live ks, one-of (lives k))
  where
    one-of : (b : Bool) → one_if (not b) + one_if b ≡ 1
    one-of true = refl
    one-of false = refl

more : (n : ℕ) → true ≡ nat_lt 0 (1 + n)
more n = grind (arith, nat_tests)

plus : (n : ℕ) → n ≡ 0 + n
plus n = omega arith

by-first : (b c : Bool) (n : ℕ) → c ≡ nat_lt 0 n → b || c ≡ nat_lt 0 (one_if b + n)
by-first true c n e = more n
by-first false c n e = e ∙ ap (λ (m : ℕ). nat_lt 0 m) (plus n)

pub some_live : (ks : List Ticket) → list_any lives ks ≡ nat_lt 0 (count_by lives ks)
some_live [] = refl
some_live (k ∷ ks) =
    by-first (lives k) (list_any lives ks) (count_by lives ks) (some_live ks) ∙ ap (λ (n : ℕ). nat_lt 0 n) (sym (live_counted k ks))

summed : (n : ℕ) (ns : List ℕ) → sum (n ∷ ns) ≡ n + sum ns
summed n ns = sum_by-cons (λ (x : ℕ). x) n ns

-- no caller has more signals due than all of them together
within-sum : (ns : List ℕ) (c : ℕ) → slice_index_or ns c 0 ≤ sum ns
within-sum [] c = omega arith
within-sum (n ∷ ns) zero = omega (arith, summed n ns)
within-sum (n ∷ ns) (suc c) = omega (arith, summed n ns, within-sum ns c)

pub due_within : (d : DeskState) (c : ℕ) → due d c ≤ sum d.due
due_within d c = within-sum d.due c

-- ---- a ticket that is taken lives on

taken-lives : (d : DeskState) (m : List ℕ) (t : ℕ) → done_ticket m d ≡ Some t → lives (taken d m (ticket d t)) ≡ lives (ticket d t)
taken-lives d m t e =
    let live : lives (ticket d t) ≡ true = done_is_live d (word_at m d.take) t e in
    (taken_keeps (is_sensing (ticket d t).stage) (is_again d m (ticket d t)) (is_check d m (ticket d t)) m (ticket d t) live).lives

record SameLive (old new : List Ticket) : Type 0 where
  pub count : count_by lives new ≡ count_by lives old
  pub before : (n : ℕ) → live_before n new ≡ live_before n old

by-found : (d : DeskState) (m : List ℕ) (o : Option ℕ) → done_ticket m d ≡ o → IsSome o → SameLive d.tickets (takes d m (unwrap_or o 0)).tickets
by-found d m None e some = absurd cc
by-found d m (Some t) e some = record {
  count = live_count_stays d.tickets t (taken d m (ticket d t)) (taken-lives d m t e);
  before = λ n. live_before_stays n d.tickets t (taken d m (ticket d t)) (taken-lives d m t e);
}

pub taken_count : (d : DeskState) (m : List ℕ) → IsSome (done_ticket m d) → count_by lives (takes d m (next_done m d)).tickets ≡ count_by lives d.tickets
taken_count d m some = (by-found d m (done_ticket m d) refl some).count

pub taken_before : (n : ℕ) (d : DeskState) (m : List ℕ) → IsSome (done_ticket m d) → live_before n (takes d m (next_done m d)).tickets ≡ live_before n d.tickets
taken_before n d m some = (by-found d m (done_ticket m d) refl some).before n

-- ---- no signal is due

zero-test : (n : ℕ) → n ≡ 0 → (n == 0) ≡ true
zero-test n e = grind (arith, nat_tests)

more-test : (n : ℕ) → (n ≡ 0 → ⊥) → (n == 0) ≡ false
more-test n e = grind (arith, nat_tests)

all-zero : (ns : List ℕ) → ((c : ℕ) → c < length ns → slice_index_or ns c 0 ≡ 0) → none_due ns ≡ true
all-zero [] h = refl
all-zero (n ∷ ns) h = and_from (n == 0) (none_due ns) (zero-test n (h 0 (omega arith))) (all-zero ns (λ c l. h (suc c) (omega (arith, l))))

one-more : (ns : List ℕ) (c : ℕ) → c < length ns → (slice_index_or ns c 0 ≡ 0 → ⊥) → none_due ns ≡ false
one-more [] c l n = absurd (omega (arith, l))
one-more (x ∷ xs) zero l n = and_left (x == 0) (none_due xs) (more-test x n)
one-more (x ∷ xs) (suc c) l n = and_right (x == 0) (none_due xs) (one-more xs c (omega (arith, l)) n)

pub all_made : (d : DeskState) → ((c : ℕ) → c < length d.due → due d c ≡ 0) → none_due d.due ≡ true
all_made d h = all-zero d.due h

pub one_due : (d : DeskState) (c : ℕ) → c < length d.due → (due d c ≡ 0 → ⊥) → none_due d.due ≡ false
one_due d c l n = one-more d.due c l n
