-- A ticket that waits to be selected. Source: own.
use Rattle.std.specs.Prelude.{◌≡◌, ◌⊎◌, ℕ}
use Rattle.target_law.specs.Target.{Target}
use Rattle.ticket_fate.specs.Tickets.{Plan, Waits, Ticket}
use Rattle.ticket_fate.specs.Laws.{Reached}
use Rattle.ticket_fate.specs.Moves.{Moves, alone}

-- a move is a step of this ticket by itself
abbrev pub IsStepOf : {p : Plan} {count : ℕ} {ks : ℕ → Ticket} {ts : ℕ → Target} {ns : ℕ → Ticket} {us : ℕ → Target} → ℕ → Moves p count ks ts ns us → Type 0
IsStepOf x (alone y k u there m) = y ≡ x
IsStepOf x m = ⊥

-- it waits over every other move, resets among them
abbrev pub WaitingTicketsStay : Type 0
WaitingTicketsStay =
    (p : Plan) (count : ℕ) (ks : ℕ → Ticket) (ts : ℕ → Target) (ns : ℕ → Ticket) (us : ℕ → Target) → Reached p count ks ts → (m : Moves p count ks ts ns us) → (x : ℕ) → (ks x).life ≡ Waits → ((ns x).life ≡ Waits) ⊎ IsStepOf x m
