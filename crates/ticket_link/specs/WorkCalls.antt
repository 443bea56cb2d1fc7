-- Which move of tickets and targets each call of the bus is that a connected task takes part in.
use Rattle.std.specs.Prelude.{◌≡◌, ℕ, Bool, true, false, slice_get, Some}
use Rattle.rig_types.specs.declared.report.Outcome.TheVariants.{Cut}
use Rattle.unit_law.specs.Log.{with_at}
use Rattle.target_law.specs.declared.task_phase.TargetMessage.{TargetMessage}
use Rattle.target_law.specs.declared.task_phase.TargetMessage.TheVariants.{CommandComplete, Disconnect}
use Rattle.target_law.specs.declared.task_phase.TaskPhase.TheVariants.{MessageOut, DataOut, MessageIn}
use Rattle.target_law.specs.declared.task_phase.Completion.{Completion}
use Rattle.target_law.specs.Bytes.{Connection, byte_by, sent_by, took_by, heard_by, away}
use Rattle.target_law.specs.Target.{LogicalUnit, TaskConnected, Target, unit_at, session, linked}
use Rattle.target_law.specs.Calls.{asked_by, link_byte, sent_if, link_takes, took_if, Resets, AbortsTag, message_of, target_messaged, target_acked}
use Rattle.ticket_fate.specs.Tickets.{Plan, Away, Asked, Finished, Ticket, with_life, ticket_sent, ticket_asked}
use Rattle.ticket_fate.specs.Linked.{ByDevice, CanReset, reset_tickets}
use Rattle.ticket_fate.specs.Moves.{CompletesTicket, parts_ticket, target_of}
use Rattle.ticket_link.specs.CallMoves.{CallMoves, DeviceResetMoves}

-- a task of this unit is connected to target i
pub record IsWorking (ts : ℕ → Target) (i : ℕ) (c : Connection) (u : LogicalUnit) : Type 0 where
  pub link : (ts i).link ≡ TaskConnected c
  pub there : unit_at (ts i).units c.lun ≡ Some u

-- its ticket becomes k, and its target t, by one call of the bus
abbrev pub MovesTo : Plan → ℕ → (ℕ → Ticket) → (ℕ → Target) → ℕ → Connection → Ticket → Target → Type 0
MovesTo g count ks ts i c k t = CallMoves g count ks ts (with_at ks c.task.ticket k) (with_at ts i t)

pub record WorkCallsMove : Type 0 where
  pub asked : (g : Plan) (count : ℕ) (ks : ℕ → Ticket) (ts : ℕ → Target) (i : ℕ) (c : Connection) (u : LogicalUnit) → IsWorking ts i c u → c.task.senses ≡ false
      → MovesTo g count ks ts i c (record (ks c.task.ticket) { task = c.task }) (linked (ts i) (asked_by (ts i).link))
  pub listened : (g : Plan) (count : ℕ) (ks : ℕ → Ticket) (ts : ℕ → Target) (i : ℕ) (c : Connection) (u : LogicalUnit) → IsWorking ts i c u → c.task.senses ≡ false → (b : ℕ) → c.shows ≡ MessageOut
      → MovesTo g count ks ts i c (record (ks c.task.ticket) { task = c.task }) (linked (ts i) (took_if (link_takes (ts i).link) (ts i).link b))
  pub received : (g : Plan) (count : ℕ) (ks : ℕ → Ticket) (ts : ℕ → Target) (i : ℕ) (c : Connection) (u : LogicalUnit) → IsWorking ts i c u → c.task.senses ≡ false → (n b : ℕ) → c.shows ≡ DataOut n
      → slice_get (ks c.task.ticket).buffer c.task.position ≡ Some b
      → MovesTo g count ks ts i c (record (ks c.task.ticket) { task = (took_by (DataOut n) c b).task }) (linked (ts i) (took_if (link_takes (ts i).link) (ts i).link b))
  pub sent : (g : Plan) (count : ℕ) (ks : ℕ → Ticket) (ts : ℕ → Target) (i : ℕ) (c : Connection) (u : LogicalUnit) → IsWorking ts i c u → c.task.senses ≡ false → (b : ℕ) → byte_by c.shows c.task c.lun ≡ Some b
      → MovesTo g count ks ts i c (ticket_sent c.shows c.task.position b (ks c.task.ticket) (sent_by c.shows c).task) (linked (ts i) (sent_if (link_byte (ts i).link) (ts i).link))
  pub sense_sent : (g : Plan) (count : ℕ) (ks : ℕ → Ticket) (ts : ℕ → Target) (i : ℕ) (c : Connection) (u : LogicalUnit) → IsWorking ts i c u → c.task.senses ≡ true → (b : ℕ) → byte_by c.shows c.task c.lun ≡ Some b
      → MovesTo g count ks ts i c (ticket_asked c.shows c.task.position b (ks c.task.ticket) (sent_by c.shows c).task) (linked (ts i) (sent_if (link_byte (ts i).link) (ts i).link))
  -- a message of the initiator acts
  pub aborted : (g : Plan) (count : ℕ) (ks : ℕ → Ticket) (ts : ℕ → Target) (i : ℕ) (c : Connection) (u : LogicalUnit) → IsWorking ts i c u → c.task.senses ≡ false → message_of c.heard ≡ AbortsTag → c.reselected ≡ true
      → (ks c.task.ticket).marked ≡ true → MovesTo g count ks ts i c (with_life (ks c.task.ticket) (Finished Cut)) (target_messaged (ts i))
  pub sent_away : (g : Plan) (count : ℕ) (ks : ℕ → Ticket) (ts : ℕ → Target) (i : ℕ) (c : Connection) (u : LogicalUnit) → IsWorking ts i c u → c.task.senses ≡ false → (message_of c.heard ≡ Resets → ⊥)
      → (message_of c.heard ≡ AbortsTag → c.reselected ≡ false) → (ks c.task.ticket).savep ≡ c.task.saved
      → MovesTo g count ks ts i c (record (ks c.task.ticket) { life = Away; task = away c.task }) (target_messaged (ts i))
  pub reset : (g : Plan) (count : ℕ) (ks : ℕ → Ticket) (ts : ℕ → Target) (i : ℕ) (c : Connection) (u : LogicalUnit) → IsWorking ts i c u → c.task.senses ≡ false → message_of c.heard ≡ Resets
      → ((x : ℕ) → target_of g x ≡ i → CanReset ByDevice (ks x).life)
      → DeviceResetMoves i g count ks ts (reset_tickets g i ByDevice (ts i) (with_at ks c.task.ticket (parts_ticket ks c))) (with_at ts i (target_messaged (ts i)))
  -- a message of the target is acknowledged
  pub heard : (g : Plan) (count : ℕ) (ks : ℕ → Ticket) (ts : ℕ → Target) (i : ℕ) (c : Connection) (u : LogicalUnit) → IsWorking ts i c u → c.task.senses ≡ false → (n : TargetMessage) (s : Bool) → c.shows ≡ MessageIn n s
      → ((v : Completion) → n ≡ CommandComplete v → ⊥) → (n ≡ Disconnect → ⊥) → MovesTo g count ks ts i c (record (ks c.task.ticket) { task = (heard_by n c).task }) (target_acked (ts i))
  pub left : (g : Plan) (count : ℕ) (ks : ℕ → Ticket) (ts : ℕ → Target) (i : ℕ) (c : Connection) (u : LogicalUnit) → IsWorking ts i c u → c.task.senses ≡ false → (s : Bool) → c.shows ≡ MessageIn Disconnect s
      → (ks c.task.ticket).savep ≡ c.task.saved → MovesTo g count ks ts i c (record (ks c.task.ticket) { life = Away; task = away c.task }) (target_acked (ts i))
  pub completed : (g : Plan) (count : ℕ) (ks : ℕ → Ticket) (ts : ℕ → Target) (i : ℕ) (c : Connection) (u : LogicalUnit) → IsWorking ts i c u → c.task.senses ≡ false → (v : Completion) (s : Bool)
      → c.shows ≡ MessageIn (CommandComplete v) s → (k : Ticket) → CompletesTicket v g c.task.ticket (ks c.task.ticket) (session u c) k → MovesTo g count ks ts i c k (target_acked (ts i))
  pub sense_completed : (g : Plan) (count : ℕ) (ks : ℕ → Ticket) (ts : ℕ → Target) (i : ℕ) (c : Connection) (u : LogicalUnit) → IsWorking ts i c u → c.task.senses ≡ true → (v : Completion) (s : Bool)
      → c.shows ≡ MessageIn (CommandComplete v) s → MovesTo g count ks ts i c (with_life (ks c.task.ticket) Asked) (target_acked (ts i))
