-- Stages: which of them live, and how often a ticket in one was queued.
use Rattle.std.proofs.Common.{arith, ◌≡◌, ℕ, ◌+◌, ◌≤◌, true, false, List, refl}
use Rattle.std.proofs.lemmas.Bool.Decides.{nat_tests}
use Rattle.desk_law.specs.declared.stage.Stage.{Stage}
use Rattle.desk_law.specs.declared.stage.Stage.TheVariants as stage
use Rattle.desk_law.specs.declared.ticket.Ticket.{Ticket}
use Rattle.desk_law.specs.Desk.{DeskState, is_freed}
use Rattle.desk_law.specs.Taking.{is_again}
use Rattle.driver_desk.specs.Conditions.{MayQueue, MayEnd, IsEnded}
use Rattle.driver_desk.specs.Kept.{most_tries}

pub queueable_lives : (s : Stage) → MayQueue s → is_freed s ≡ false
queueable_lives stage.Linked h = refl
queueable_lives stage.Again h = refl
queueable_lives stage.Built h = absurd h
queueable_lives stage.Queued h = absurd h
queueable_lives stage.Check h = absurd h
queueable_lives stage.Sensing h = absurd h
queueable_lives (stage.Ended o) h = absurd h
queueable_lives stage.Unlinked h = absurd h
queueable_lives stage.Freed h = absurd h

pub running_lives : (s : Stage) → MayEnd s → is_freed s ≡ false
running_lives stage.Queued h = refl
running_lives stage.Sensing h = refl
running_lives stage.Built h = absurd h
running_lives stage.Linked h = absurd h
running_lives stage.Again h = absurd h
running_lives stage.Check h = absurd h
running_lives (stage.Ended o) h = absurd h
running_lives stage.Unlinked h = absurd h
running_lives stage.Freed h = absurd h

pub ended_lives : (s : Stage) → IsEnded s → is_freed s ≡ false
ended_lives (stage.Ended o) h = refl
ended_lives stage.Built h = absurd h
ended_lives stage.Linked h = absurd h
ended_lives stage.Queued h = absurd h
ended_lives stage.Again h = absurd h
ended_lives stage.Check h = absurd h
ended_lives stage.Sensing h = absurd h
ended_lives stage.Unlinked h = absurd h
ended_lives stage.Freed h = absurd h

pub tries_at_most : (retries : ℕ) (s : Stage) → most_tries retries s ≤ retries + 1
tries_at_most retries stage.Built = omega arith
tries_at_most retries stage.Linked = omega arith
tries_at_most retries stage.Again = omega arith
tries_at_most retries stage.Queued = omega arith
tries_at_most retries stage.Check = omega arith
tries_at_most retries stage.Sensing = omega arith
tries_at_most retries (stage.Ended o) = omega arith
tries_at_most retries stage.Unlinked = omega arith
tries_at_most retries stage.Freed = omega arith

pub tries_before_queue : (retries : ℕ) (s : Stage) → MayQueue s → most_tries retries s ≤ retries
tries_before_queue retries stage.Linked h = omega arith
tries_before_queue retries stage.Again h = omega arith
tries_before_queue retries stage.Built h = absurd h
tries_before_queue retries stage.Queued h = absurd h
tries_before_queue retries stage.Check h = absurd h
tries_before_queue retries stage.Sensing h = absurd h
tries_before_queue retries (stage.Ended o) h = absurd h
tries_before_queue retries stage.Unlinked h = absurd h
tries_before_queue retries stage.Freed h = absurd h

pub tries_left : (d : DeskState) (m : List ℕ) (k : Ticket) → is_again d m k ≡ true → k.tries ≤ d.retries
tries_left d m k h = grind (arith, nat_tests, h)
