-- The desk beside tickets without words: what stage, tag, unit, tries and outcome it keeps of each, by where the ticket is in its life. Source: own.
use Rattle.std.specs.Prelude.{◌≡◌, ℕ, ◌≤◌, ◌<◌, nat_le, Bool, true, false, List, length, Option, Some, None, ◌⊎◌}
use Rattle.rig_types.specs.declared.report.Outcome.{Outcome}
use Rattle.rig_types.specs.declared.report.Outcome.TheVariants.{Done}
use Rattle.unit_law.specs.Log.{View, with_at}
use Rattle.unit_law.specs.Request.{RequestData}
use Rattle.target_law.specs.Target.{Target}
use Rattle.rig_types.specs.declared.step.Line.{Line}
use Rattle.desk_law.specs.declared.stage.Stage.{Stage}
use Rattle.desk_law.specs.declared.stage.Stage.TheVariants as stage
use Rattle.desk_law.specs.declared.ticket.Ticket.{Ticket as DeskTicket}
use Rattle.desk_law.specs.Desk.{DeskState, is_rogue, is_sensing, ticket}
use Rattle.desk_law.specs.Calls.{links, unlinks, queues, senses, ends, Frees}
use Rattle.desk_law.specs.Taking.{state_of, status_byte, is_again, is_check, outcome_by, takes}
use Rattle.world_law.specs.Resets.{sweep_outcome}
use Rattle.desk_law.specs.Building.{Builds}
use Rattle.ticket_fate.specs.Tickets.{Plan, unit_of, Life, Unbuilt, Built, Linked, ToRequeue, Checked, Lost, Rejected, Finished, Asks, AskStarts, AskConnected, AskLost, Asked, AtRogue, Ended, Unlinked, Freed, Ticket}
use Rattle.ticket_fate.specs.Moves.{IsToAsk, TicketMove, selects, times_out, cancels, ask_selects, selects_rogue, Moves, alone}
use Rattle.ticket_fate.specs.Histories.{Progress, NotQueued, UnderWay, Reported, progress_of}
use Rattle.ticket_fate.specs.Laws.{Reached}

-- the stage of a ticket by its life; None before its Build
abbrev pub stage_of : Life → Option Stage
stage_of Unbuilt = None
stage_of Built = Some stage.Built
stage_of Linked = Some stage.Linked
stage_of ToRequeue = Some stage.Again
stage_of Checked = Some stage.Check
stage_of Asks = Some stage.Sensing
stage_of AskStarts = Some stage.Sensing
stage_of AskConnected = Some stage.Sensing
stage_of AskLost = Some stage.Sensing
stage_of Asked = Some stage.Sensing
stage_of (Ended o) = Some (stage.Ended o)
stage_of (Unlinked o) = Some stage.Unlinked
stage_of (Freed o) = Some stage.Freed
stage_of _ = Some stage.Queued

-- a ticket of a unit that breaks the rules is queued, or is to be queued again
abbrev pub IsStage : Life → Stage → Type 0
IsStage AtRogue s = (s ≡ stage.Queued) ⊎ (s ≡ stage.Again)
IsStage l s = stage_of l ≡ Some s

-- its outcome, once it has ended
abbrev pub outcome_of : Life → Option Outcome
outcome_of (Ended o) = Some o
outcome_of (Unlinked o) = Some o
outcome_of (Freed o) = Some o
outcome_of _ = None

-- before its first Queue it has no tries, and from then on it has some
abbrev pub IsCounted : Progress → (tries : ℕ) → Type 0
IsCounted NotQueued n = n ≡ 0
IsCounted UnderWay n = 0 < n
IsCounted Reported n = Unit {0}

-- what the desk keeps of ticket t
pub record IsKept (p : Plan) (t : ℕ) (x : DeskTicket) (k : Ticket) : Type 0 where
  pub stage_is : IsStage k.life x.stage
  pub tag_is : x.tag ≡ k.tag
  pub unit_is : x.unit ≡ unit_of p t
  pub tries_are : x.tries ≡ k.tries
  pub outcome_is : x.outcome ≡ outcome_of k.life
  pub counted_is : IsCounted (progress_of k.life) k.tries

-- the desk has the tickets that are built, in the order of their numbers
pub record DeskJoined (p : Plan) (d : DeskState) (ks : ℕ → Ticket) : Type 0 where
  pub unbuilt : (x : ℕ) → length d.tickets ≤ x → (ks x).life ≡ Unbuilt
  pub each : (t : ℕ) → t < length d.tickets → IsKept p t (ticket d t) (ks t)

-- a ticket becomes k by a step of its own, whatever its unit's log says, and the desk has it so
pub record StepsTo (p : Plan) (t : ℕ) (ks : ℕ → Ticket) (new : DeskState) : Type 0 where
  pub to : View → Ticket
  pub step : (v : View) → TicketMove p t v (ks t) (to v)
  pub joined : (v : View) → DeskJoined p new (with_at ks t (to v))

-- the steps of the driver on the desk, each for a ticket in the stage that it asks for
pub record DeskStepsMove : Type 0 where
  pub built : (p : Plan) (d new : DeskState) (ks : ℕ → Ticket) (memory memory' : List ℕ) (l : Line) (r : RequestData) (number : ℕ) → DeskJoined p d ks → Builds d memory l r number new memory' → p.requests number ≡ r
      → StepsTo p number ks new
  pub linked : (p : Plan) (d : DeskState) (ks : ℕ → Ticket) (t : ℕ) → DeskJoined p d ks → t < length d.tickets → (ticket d t).stage ≡ stage.Built → StepsTo p t ks (links d t)
  pub queued : (p : Plan) (d : DeskState) (ks : ℕ → Ticket) (t : ℕ) → DeskJoined p d ks → t < length d.tickets → ((ticket d t).stage ≡ stage.Linked) ⊎ ((ticket d t).stage ≡ stage.Again) → StepsTo p t ks (queues d t)
  pub sensed : (p : Plan) (d : DeskState) (ks : ℕ → Ticket) (t : ℕ) → DeskJoined p d ks → t < length d.tickets → (ticket d t).stage ≡ stage.Check → StepsTo p t ks (senses d t)
  pub unlinked : (p : Plan) (d : DeskState) (ks : ℕ → Ticket) (t : ℕ) (o : Outcome) → DeskJoined p d ks → t < length d.tickets → (ticket d t).stage ≡ stage.Ended o → StepsTo p t ks (unlinks d t)
  pub freed : (p : Plan) (d new : DeskState) (ks : ℕ → Ticket) (t : ℕ) → DeskJoined p d ks → t < length d.tickets → (ticket d t).stage ≡ stage.Unlinked → Frees d t new → StepsTo p t ks new

-- What the words of a ticket's block say when it is taken: BUSY or QUEUE FULL with tries left is to be queued again, without it is an outcome;
-- CHECK CONDITION is checked where the driver is to ask; any other end is its outcome. A ticket of a unit that breaks the rules is never checked.
abbrev pub WordsAgree : Plan → DeskState → (memory : List ℕ) → (t : ℕ) → DeskTicket → Ticket → Life → Type 0
WordsAgree p d m t x k Asked = Unit {0}
WordsAgree p d m t x k (Rejected st) = (is_again d m x ≡ nat_le k.tries p.retries) × (is_check d m x ≡ false) × (outcome_by (state_of m x) (status_byte m x) ≡ Done)
WordsAgree p d m t x k (Finished o) =
    (is_again d m x ≡ false) × (is_check d m x ≡ true → (o ≡ Done) × IsToAsk p t k) × (is_check d m x ≡ false → (outcome_by (state_of m x) (status_byte m x) ≡ o) × (o ≡ Done → IsToAsk p t k → ⊥))
WordsAgree p d m t x k AtRogue = is_check d m x ≡ false
WordsAgree p d m t x k l = ⊥

-- TakeDone, where the words tell so, and Sweep, of a ticket that a reset took from the chip
abbrev pub IsLostToReset : Life → (sensing rogue : Bool) → Type 0
IsLostToReset Lost sensing rogue = rogue ≡ false
IsLostToReset AskLost sensing rogue = Unit {0}
IsLostToReset AtRogue sensing rogue = Unit {0}
IsLostToReset l sensing rogue = ⊥

pub record DoneStepsMove : Type 0 where
  pub taken : (p : Plan) (d : DeskState) (ks : ℕ → Ticket) (memory : List ℕ) (t : ℕ) → DeskJoined p d ks → t < length d.tickets → WordsAgree p d memory t (ticket d t) (ks t) (ks t).life → StepsTo p t ks (takes d memory t)
  pub swept : (p : Plan) (d : DeskState) (ks : ℕ → Ticket) (t : ℕ) → DeskJoined p d ks → t < length d.tickets → IsLostToReset (ks t).life (is_sensing (ticket d t).stage) (is_rogue d (ticket d t))
      → StepsTo p t ks (ends d t (sweep_outcome (is_sensing (ticket d t).stage) (is_rogue d (ticket d t))))

-- the steps of a ticket that the chip makes
abbrev pub IsChipStep : {p : Plan} {x : ℕ} {v : View} {k j : Ticket} → TicketMove p x v k j → Type 0
IsChipStep (selects e a r) = Unit {0}
IsChipStep (times_out e a) = Unit {0}
IsChipStep (cancels e m) = Unit {0}
IsChipStep (ask_selects e) = Unit {0}
IsChipStep (selects_rogue e r) = Unit {0}
IsChipStep m = ⊥

-- these, each call of the bus, the pointers that the chip writes, and marks
abbrev pub LeavesDesk : {p : Plan} {count : ℕ} {ks : ℕ → Ticket} {ts : ℕ → Target} {ns : ℕ → Ticket} {us : ℕ → Target} → Moves p count ks ts ns us → Type 0
LeavesDesk (alone x k u there m) = IsChipStep m
LeavesDesk m = Unit {0}

-- leave what the desk has of each ticket
abbrev pub ChipLeavesDesk : Type 0
ChipLeavesDesk = (p : Plan) (count : ℕ) (ks : ℕ → Ticket) (ts : ℕ → Target) (ns : ℕ → Ticket) (us : ℕ → Target) (d : DeskState) → Reached p count ks ts → (m : Moves p count ks ts ns us) → LeavesDesk m → DeskJoined p d ks → DeskJoined p d ns
