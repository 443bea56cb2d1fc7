-- What a move makes of a ticket's marks, of its progress, and of what its history rests on.
use Rattle.std.proofs.Common.{◌≡◌, ◌≢◌, ℕ, ◌-◌, Bool, true, false, refl, ap, sym, ◌∙◌, subst, ◌⊎◌, inl, inr, nat_lt}
use Rattle.std.specs.Prelude.{◌&&◌, ◌||◌}
use Rattle.unit_law.specs.Log.{Tally, View, with_at}
use Rattle.unit_law.proofs.Views.{with_at-same, with_at-other, same_or_not}
use Rattle.target_law.specs.declared.task_phase.TaskPhase.{TaskPhase}
use Rattle.target_law.specs.declared.task_phase.TaskPhase.TheVariants.{ToChoose, MessageOut, DataIn, DataOut, Status, MessageIn}
use Rattle.target_law.specs.Session.{Task}
use Rattle.ticket_fate.specs.Tickets.{Plan, Life, Unbuilt, Built, ToRequeue, Waits, Lost, Rejected, Finished, Checked, Asks, AskLost, Asked, AtRogue, Ended, is_live, Ticket, ticket_sent, ticket_asked}
use Rattle.ticket_fate.specs.Linked.{ResetCause, ByBus, ByDevice, lost_life, flagged, reset_ticket}
use Rattle.ticket_fate.specs.Moves.{TicketMove, builds, links, queues, requeues, selects, times_out, cancels, takes_again, takes_refused, takes, takes_checked, asks, ask_selects, takes_sense, sweeps_asking, selects_rogue, rogue_moves, ends_rogue, sweeps, unlinks, frees}
use Rattle.ticket_fate.specs.Histories.{NotQueued, UnderWay, Reported, progress_of, is_bus}

-- Its progress stays; or, by a move that resets nothing, it is queued for the first time, or freed with its Clears noted.
abbrev pub ProgressTurned : Ticket → Ticket → (clears : ℕ) → (caused : Bool) → Type 0
ProgressTurned k j clears caused =
    ((progress_of j.life ≡ progress_of k.life) × (j.since ≡ k.since) × (j.clears ≡ k.clears)) ⊎
    (((progress_of k.life ≡ NotQueued) × (progress_of j.life ≡ UnderWay) × (j.since ≡ clears) × (caused ≡ false)) ⊎
    ((progress_of k.life ≡ UnderWay) × (progress_of j.life ≡ Reported) × (j.clears ≡ clears - k.since) × (caused ≡ false)))

pub record TicketTurned (k j : Ticket) (before : Tally) (mark bus caused : Bool) : Type 0 where
  pub marked : j.marked ≡ (k.marked || mark)
  pub bus_reset : j.bus_reset ≡ (k.bus_reset || (bus && (nat_lt 0 before.ends && is_live k.life)))
  pub progress : ProgressTurned k j before.clears caused

pub or-none : (b : Bool) → b ≡ (b || false)
or-none true = refl
or-none false = refl

-- neither marked nor reset
plain : (k j : Ticket) (before : Tally) → j.marked ≡ k.marked → j.bus_reset ≡ k.bus_reset → ProgressTurned k j before.clears false → TicketTurned k j before false false false
plain k j before m b c = record { marked = m ∙ or-none k.marked; bus_reset = b ∙ or-none k.bus_reset; progress = c }

pub stays : (k j : Ticket) (before : Tally) → j.marked ≡ k.marked → j.bus_reset ≡ k.bus_reset → progress_of j.life ≡ progress_of k.life → j.since ≡ k.since → j.clears ≡ k.clears → TicketTurned k j before false false false
stays k j before m b c s f = plain k j before m b (inl (c, s, f))

same : (k j : Ticket) (before : Tally) (l : Life) → k.life ≡ l → progress_of j.life ≡ progress_of l → j.marked ≡ k.marked → j.bus_reset ≡ k.bus_reset → j.since ≡ k.since → j.clears ≡ k.clears → TicketTurned k j before false false false
same k j before l e c m b s f = stays k j before m b (c ∙ sym (ap progress_of e)) s f

pub alone-turned : (g : Plan) (x : ℕ) (v : View) (k j : Ticket) → TicketMove g x v k j → TicketTurned k j v.tally false false false
alone-turned g x v k j (builds tag e) = same k j v.tally Unbuilt e refl refl refl refl refl
alone-turned g x v k j (links e) = same k j v.tally Built e refl refl refl refl refl
alone-turned g x v k j (queues e) = plain k j v.tally refl refl (inr (inl (ap progress_of e, refl, refl, refl)))
alone-turned g x v k j (requeues e) = same k j v.tally ToRequeue e refl refl refl refl refl
alone-turned g x v k j (selects e f r) = same k j v.tally Waits e refl refl refl refl refl
alone-turned g x v k j (times_out e f) = same k j v.tally Waits e refl refl refl refl refl
alone-turned g x v k j (cancels e f) = same k j v.tally Waits e refl refl refl refl refl
alone-turned g x v k j (takes_again st e f) = same k j v.tally (Rejected st) e refl refl refl refl refl
alone-turned g x v k j (takes_refused st e f) = same k j v.tally (Rejected st) e refl refl refl refl refl
alone-turned g x v k j (takes o e n) = same k j v.tally (Finished o) e refl refl refl refl refl
alone-turned g x v k j (takes_checked e a) = same k j v.tally (Finished _) e refl refl refl refl refl
alone-turned g x v k j (asks area e s) = same k j v.tally Checked e refl refl refl refl refl
alone-turned g x v k j (ask_selects e) = same k j v.tally Asks e refl refl refl refl refl
alone-turned g x v k j (takes_sense e) = same k j v.tally Asked e refl refl refl refl refl
alone-turned g x v k j (sweeps_asking e) = same k j v.tally AskLost e refl refl refl refl refl
alone-turned g x v k j (selects_rogue e r) = same k j v.tally Waits e refl refl refl refl refl
alone-turned g x v k j (rogue_moves status lastp savep tries buffer area e) = stays k j v.tally refl refl refl refl refl
alone-turned g x v k j (ends_rogue o e) = same k j v.tally AtRogue e refl refl refl refl refl
alone-turned g x v k j (sweeps e) = same k j v.tally Lost e refl refl refl refl refl
alone-turned g x v k j (unlinks o e) = same k j v.tally (Ended o) e refl refl refl refl refl
alone-turned g x v k j (frees o e) = plain k j v.tally refl refl (inr (inr (ap progress_of e, refl, refl, refl)))

-- a reset of its target
progress-lost : (b : ResetCause) (l : Life) → progress_of (lost_life b l) ≡ progress_of l
progress-lost ByBus Asks = refl
progress-lost ByDevice Asks = refl
progress-lost b _ = refl

flag-by : (b : ResetCause) (flag : Bool) (ends : ℕ) (l : Life) → flagged b flag ends l ≡ (flag || (is_bus b && (nat_lt 0 ends && is_live l)))
flag-by ByBus flag ends l = refl
flag-by ByDevice flag ends l = or-none flag

-- a reset, where it is of the ticket's target; `j` is the ticket with its task among the others
pub reset-turned : (r : Bool) (b : ResetCause) (k j : Ticket) (before : Tally) (ends : ℕ) (caused : Bool) → (r ≡ true → ends ≡ before.ends) → j.marked ≡ k.marked → j.bus_reset ≡ k.bus_reset → progress_of j.life ≡ progress_of k.life
    → is_live j.life ≡ is_live k.life → j.since ≡ k.since → j.clears ≡ k.clears → TicketTurned k (reset_ticket r b ends j) before false (r && is_bus b) caused
reset-turned true b k j before ends caused e m f c l s n = record {
  marked = m ∙ or-none k.marked;
  bus_reset = flag-by b j.bus_reset ends j.life ∙ ap (λ z. z || (is_bus b && (nat_lt 0 ends && is_live j.life))) f
      ∙ ap (λ z. k.bus_reset || (is_bus b && (nat_lt 0 z && is_live j.life))) (e refl) ∙ ap (λ z. k.bus_reset || (is_bus b && (nat_lt 0 before.ends && z))) l;
  progress = inl (progress-lost b j.life ∙ c, s, n);
}
reset-turned false b k j before ends caused e m f c l s n = record { marked = m ∙ or-none k.marked; bus_reset = f ∙ or-none k.bus_reset; progress = inl (c, s, n) }

-- the ticket that a call changes, and every other one
pub at-ticket : (ks : ℕ → Ticket) (y : ℕ) (k : Ticket) (x : ℕ) (before : Tally) → (x ≡ y → TicketTurned (ks x) k before false false false) → TicketTurned (ks x) (with_at ks y k x) before false false false
at-ticket ks y k x before f = by (same_or_not x y)
  where
    by : (x ≡ y) ⊎ (x ≢ y) → TicketTurned (ks x) (with_at ks y k x) before false false false
    by (inl q) = subst (λ z. TicketTurned (ks x) z before false false false) (sym (ap (with_at ks y k) q ∙ with_at-same ks y k)) (f q)
    by (inr d) = subst (λ z. TicketTurned (ks x) z before false false false) (sym (with_at-other ks y k x d)) (stays (ks x) (ks x) before refl refl refl refl refl)

pub sent-turned : (sh : TaskPhase) (at b : ℕ) (k : Ticket) (x : Task) (before : Tally) → TicketTurned k (ticket_sent sh at b k x) before false false false
sent-turned ToChoose at b k x before = stays k _ before refl refl refl refl refl
sent-turned MessageOut at b k x before = stays k _ before refl refl refl refl refl
sent-turned (DataIn n) at b k x before = stays k _ before refl refl refl refl refl
sent-turned (DataOut n) at b k x before = stays k _ before refl refl refl refl refl
sent-turned (Status v) at b k x before = stays k _ before refl refl refl refl refl
sent-turned (MessageIn n s) at b k x before = stays k _ before refl refl refl refl refl

pub asked-turned : (sh : TaskPhase) (at b : ℕ) (k : Ticket) (x : Task) (before : Tally) → TicketTurned k (ticket_asked sh at b k x) before false false false
asked-turned ToChoose at b k x before = stays k _ before refl refl refl refl refl
asked-turned MessageOut at b k x before = stays k _ before refl refl refl refl refl
asked-turned (DataIn n) at b k x before = stays k _ before refl refl refl refl refl
asked-turned (DataOut n) at b k x before = stays k _ before refl refl refl refl refl
asked-turned (Status v) at b k x before = stays k _ before refl refl refl refl refl
asked-turned (MessageIn n s) at b k x before = stays k _ before refl refl refl refl refl
