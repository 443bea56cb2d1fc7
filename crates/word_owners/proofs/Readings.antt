-- RINGP is a start slot, and the done slot holds a ticket to take unless it is idle.
use Rattle.std.proofs.Common.{◌≡◌, ◌≢◌, inl, inr, ℕ, zero, suc, ◌+◌, ◌<◌, ◌≤◌, List, [], ◌∷◌, length, cond, Bool, true, false, ◌&&◌, ◌||◌, nat_lt, nat_le, refl, sym, ap, ◌∙◌, arith, Some, None, get_or}
use Rattle.std.specs.Prelude.{◌==◌, not, position}
use Rattle.std.specs.List.{position_or_len}
use Rattle.std.proofs.Math.Nat.{eq-or-lt_of_le}
use Rattle.std.proofs.lemmas.Bool.Decides.{nat_tests}
use Rattle.bench_words.specs.Memory.{word_at}
use Rattle.host_map.specs.Places.{start_slot, done_slot}
use Rattle.cmd_block.specs.declared.Field.TheVariants.{State}
use Rattle.phase_fix.specs.Remain.{field}
use Rattle.desk_law.specs.declared.stage.Stage.{Stage}
use Rattle.desk_law.specs.declared.stage.Stage.TheVariants as stage
use Rattle.desk_law.specs.declared.ticket.Ticket.{Ticket}
use Rattle.desk_law.specs.Desk.{ticket, lives, has_block, is_freed, is_queued, is_sensing, no_ticket}
use Rattle.desk_law.specs.Rings.{is_start_slot}
use Rattle.world_law.specs.Stops.{is_done_by}
use Rattle.word_owners.specs.Tickets.{tickets_of, block_of, IsActive}
use Rattle.word_owners.specs.Readings.{RingsAreRead}
use Rattle.word_owners.proofs.BusCalls.{both-true}
use Rattle.word_owners.proofs.DoneTaken.{found, lives-live, over-at}
use Rattle.word_owners.proofs.Frames.{active-live}
use Rattle.word_owners.proofs.Lists.{live-within}

-- ---- the first that passes

if-here : (b : Bool) (n m : ℕ) → b ≡ true → cond (not b) n 0 < suc m
if-here true n m e = omega arith
if-here false n m e = absurd cc

if-later : (b : Bool) (n m : ℕ) → n < m → cond (not b) (1 + n) 0 < suc m
if-later true n m l = omega arith
if-later false n m l = omega (arith, l)

passes-within : (p : Ticket → Bool) (ks : List Ticket) (i : ℕ) (d : Ticket) → i < length ks → p (get_or ks i d) ≡ true → position_or_len p ks < length ks
passes-within p [] i d l e = absurd (omega (arith, l))
passes-within p (k ∷ ks) zero d l e = if-here (p k) (1 + position_or_len p ks) (length ks) e
passes-within p (k ∷ ks) (suc i) d l e = if-later (p k) (position_or_len p ks) (length ks) (passes-within p ks i d (omega (arith, l)) e)

some-if : (b : Bool) (n : ℕ) → b ≡ true → cond b (Some n) None ≡ Some n
some-if true n e = refl
some-if false n e = absurd cc

is-found : (p : Ticket → Bool) (ks : List Ticket) (i : ℕ) (d : Ticket) → i < length ks → p (get_or ks i d) ≡ true → position p ks ≡ Some (position_or_len p ks)
is-found p ks i d l e = let z : position_or_len p ks < length ks = passes-within p ks i d l e in some-if (nat_lt (position_or_len p ks) (length ks)) (position_or_len p ks) (grind (arith, nat_tests))

-- ---- a ticket that is over

live-lives : (s : Stage) → s ≢ stage.Freed → not (is_freed s) ≡ true
live-lives stage.Built l = refl
live-lives stage.Linked l = refl
live-lives stage.Queued l = refl
live-lives stage.Again l = refl
live-lives stage.Check l = refl
live-lives stage.Sensing l = refl
live-lives (stage.Ended o) l = refl
live-lives stage.Unlinked l = refl
live-lives stage.Freed l = absurd (l refl)

active-test : (s : Stage) → IsActive s → is_queued s || is_sensing s ≡ true
active-test s (inl e) = ap (λ (x : Stage). is_queued x || is_sensing x) e
active-test s (inr e) = ap (λ (x : Stage). is_queued x || is_sensing x) e

state-test : (n : ℕ) → 1 ≤ n → n ≤ 3 → nat_le 1 n && nat_le n 3 ≡ true
state-test n l u = both-true (nat_le 1 n) (nat_le n 3) (grind (arith, nat_tests)) (grind (arith, nat_tests))

slot-test : (i : ℕ) → is_start_slot (start_slot i) ≡ true
slot-test i =
    both-true _ _ (both-true (nat_le 0x2000 (start_slot i)) (nat_lt (start_slot i) 0x3000) (grind (arith, nat_tests)) (grind (arith, nat_tests))) (grind (arith, nat_tests))

pub rings_are_read : RingsAreRead
rings_are_read version units s c w h =
    let ts = tickets_of w.desk in
    let v = word_at w.memory in
    let at : v w.desk.take ≡ v (done_slot c.taken) = ap v h.take in
    record {
      ringp = ap is_start_slot h.parts.ringp ∙ slot-test c.started;
      done = λ busy. elim (eq-or-lt_of_le h.parts.done.order) [
        | inl e ↦ absurd (busy (at ∙ h.parts.done.idle c.taken (omega (arith, e)) (omega arith)))
        | inr more ↦
            let x = h.parts.done.entry c.taken (omega arith) more in
            let k : Ticket = ticket w.desk x.0 in
            let live = active-live (ts.stage x.0) x.2.stage in
            let block : v w.desk.take ≡ k.block = at ∙ x.1 in
            let same : (k.block == v w.desk.take) ≡ true = grind (arith, nat_tests, block) in
            let e = is-found (has_block (v w.desk.take)) w.desk.tickets x.0 no_ticket (live-within w.desk.tickets x.0 live) (both-true (lives k) (k.block == v w.desk.take) (live-lives k.stage live) same) in
            let t : ℕ = position_or_len (has_block (v w.desk.take)) w.desk.tickets in
            let f = found w.desk (v w.desk.take) t e in
            let over = over-at v ts c h.tickets h.parts.done t (lives-live (ticket w.desk t).stage f.0) (sym at ∙ sym f.1) more in
            ap (is_done_by w) e ∙ both-true (is_queued (ticket w.desk t).stage || is_sensing (ticket w.desk t).stage) _ (active-test (ts.stage t) over.stage) (state-test (field v (block_of ts t) State) over.some over.most)
      ];
    }
