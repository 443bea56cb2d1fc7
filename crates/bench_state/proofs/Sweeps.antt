-- Which tickets are to be swept.
use Rattle.std.proofs.Common.{arith, ◌≡◌, ◌<◌, ◌≤◌, ◌&&◌, ◌||◌, ◌==◌, Bool, true, false, not, cond, nat_lt, ℕ, List, length, slice_index_or, Option, Some, None, refl, ap, ◌∙◌}
use Rattle.std.proofs.lemmas.Bool.{and_parts, and_left, or_left, false_from_ne_true, lt-ltb, le-ltb}
use Rattle.std.specs.List.{position, position_or_len}
use Rattle.std.proofs.lemmas.List.Sums.{position_or_len_is}
use Rattle.chip_regs.specs.Registers.{cause_of}
use Rattle.chip_regs.specs.declared.registers.Cause.{Cause}
use Rattle.chip_regs.specs.declared.registers.Cause.TheVariants as cause
use Rattle.desk_law.specs.declared.stage.Stage.{Stage}
use Rattle.desk_law.specs.declared.stage.Stage.TheVariants as stage
use Rattle.desk_law.specs.declared.ticket.Ticket.{Ticket}
use Rattle.desk_law.specs.Desk.{no_ticket, ticket, lives, is_queued, is_sensing}
use Rattle.desk_law.specs.Rings.{passed, waits}
use Rattle.driver_desk.specs.Conditions.{MayEnd}
use Rattle.driver_desk.proofs.Stages.{running_lives}
use Rattle.world_law.specs.World.{World}
use Rattle.world_law.specs.Stops.{is_clear, job_done, loses, to_sweep, sweep}
use Rattle.bench_state.proofs.TicketLaws.{is_there}

may-end : (s : Stage) → is_queued s || is_sensing s ≡ true → MayEnd s
may-end stage.Queued h = tt
may-end stage.Sensing h = tt
may-end stage.Built h = absurd cc
may-end stage.Linked h = absurd cc
may-end stage.Again h = absurd cc
may-end stage.Check h = absurd cc
may-end (stage.Ended o) h = absurd cc
may-end stage.Unlinked h = absurd cc
may-end stage.Freed h = absurd cc

either : (a b c : Bool) → (a && b) || c ≡ true → a || c ≡ true
either true b c h = refl
either false b c h = h

lost-ends : (w : World) (k : Ticket) (o : Option Cause) → loses w k o ≡ true → MayEnd k.stage
lost-ends w k (Some cause.Rst) h = may-end k.stage (either (is_queued k.stage) (not (waits w.memory w.desk k)) (is_sensing k.stage) h)
lost-ends w k (Some (cause.Sir v)) h =
    may-end k.stage (or_left (is_queued k.stage) (is_sensing k.stage) (and_parts _ _ (and_parts (passed w.memory w.desk k) _ (and_parts (v == job_done) _ h).1).0).0)
lost-ends w k None h = absurd cc
lost-ends w k (Some cause.Iid) h = absurd cc
lost-ends w k (Some cause.Bf) h = absurd cc
lost-ends w k (Some cause.Ma) h = absurd cc
lost-ends w k (Some cause.Udc) h = absurd cc
lost-ends w k (Some cause.Sto) h = absurd cc

swept-ends : (w : World) (k : Ticket) → to_sweep w k ≡ true → MayEnd k.stage
swept-ends w k h = lost-ends w k (cause_of w.regs) (and_parts _ _ (and_parts _ _ (and_parts (is_clear w.stop) _ h).1).1).1

pub swept_may_end : (w : World) (t : ℕ) → to_sweep w (ticket w.desk t) ≡ true → MayEnd (ticket w.desk t).stage
swept_may_end w t h = swept-ends w (ticket w.desk t) h

pub swept_is_there : (w : World) (t : ℕ) → to_sweep w (ticket w.desk t) ≡ true → t < length w.desk.tickets
swept_is_there w t h = is_there w.desk t (running_lives (ticket w.desk t).stage (swept_may_end w t h))

pub swept_lives : (w : World) (t : ℕ) → to_sweep w (ticket w.desk t) ≡ true → lives (ticket w.desk t) ≡ true
swept_lives w t h = ap not (running_lives (ticket w.desk t).stage (swept_may_end w t h))

-- a ticket that was never built isn't to be swept
pub none_to_sweep : (w : World) → to_sweep w no_ticket ≡ false
none_to_sweep w = false_from_ne_true (to_sweep w no_ticket) (λ h. swept-ends w no_ticket h)

-- ---- the least one

pub place-of : (p : Ticket → Bool) (xs : List Ticket) (t : ℕ) → t ≤ length xs → ((k : ℕ) → k < t → p (slice_index_or xs k no_ticket) ≡ false)
    → (t < length xs → p (slice_index_or xs t no_ticket) ≡ true) → position p xs ≡ cond (nat_lt t (length xs)) (Some t) None
place-of p xs t l before here =
    let at : position_or_len p xs ≡ t = position_or_len_is p xs t no_ticket l before here in
    ap (λ (n : ℕ). cond (nat_lt n (length xs)) (Some n) None) at

pub first_to_sweep : (w : World) (t : ℕ) → t < length w.desk.tickets → ((k : ℕ) → k < t → to_sweep w (ticket w.desk k) ≡ false)
    → to_sweep w (ticket w.desk t) ≡ true → sweep w ≡ Some t
first_to_sweep w t l before here =
    place-of (to_sweep w) w.desk.tickets t (omega (arith, l)) before (λ m. here)
    ∙ ap (λ (b : Bool). cond b (Some t) None) (lt-ltb t (length w.desk.tickets) l)

pub none_swept : (w : World) → ((k : ℕ) → k < length w.desk.tickets → to_sweep w (ticket w.desk k) ≡ false) → sweep w ≡ None
none_swept w before =
    place-of (to_sweep w) w.desk.tickets (length w.desk.tickets) (omega arith) before (λ m. absurd (omega (arith, m)))
    ∙ ap (λ (b : Bool). cond b (Some (length w.desk.tickets)) None) (le-ltb (length w.desk.tickets) (length w.desk.tickets) (omega arith))

pub not_in_clear : (w : World) → is_clear w.stop ≡ false → sweep w ≡ None
not_in_clear w e = none_swept w (λ k l. and_left (is_clear w.stop) _ e)
