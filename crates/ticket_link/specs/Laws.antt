-- Laws of tags and tasks over every list of moves from the opening.
use Rattle.std.specs.Prelude.{◌≡◌, ◌≢◌, ℕ, ◌<◌, true, Some, ◌⊎◌}
use Rattle.unit_law.specs.Log.{with_at}
use Rattle.target_law.specs.declared.moves.Move.{Move}
use Rattle.target_law.specs.Bytes.{Connection}
use Rattle.target_law.specs.Target.{LogicalUnit, ConnectionState, TaskConnected, Target, unit_at, linked, target_reset}
use Rattle.target_law.specs.Calls.{is_rogue, target_selected, target_acted, asked_by, link_byte, sent_if, link_takes, took_if, target_messaged, target_acked}
use Rattle.ticket_fate.specs.Tickets.{Plan, Ticket}
use Rattle.ticket_fate.specs.Linked.{HasRogue}
use Rattle.ticket_fate.specs.Moves.{IsIdle, MayLink, target_of, Moves}
use Rattle.ticket_fate.specs.Laws.{Reached}
use Rattle.ticket_link.specs.CallMoves.{CallMoves}
use Rattle.ticket_link.specs.Tags.{TagsApart, TakeFreeTags, IsItsTicket, AreTheirTickets}

abbrev pub TagsNameOne : Type 0
TagsNameOne = (g : Plan) (count : ℕ) (ns : ℕ → Ticket) (us : ℕ → Target) → (r : Reached g count ns us) → TakeFreeTags r.from.3 → TagsApart g ns

abbrev pub ConnectedIsItsTicket : Type 0
ConnectedIsItsTicket = (g : Plan) (count : ℕ) (ns : ℕ → Ticket) (us : ℕ → Target) → Reached g count ns us → (i : ℕ) (c : Connection) → (us i).link ≡ TaskConnected c → IsItsTicket g i ns c

abbrev pub WaitingAreTheirTickets : Type 0
WaitingAreTheirTickets = (g : Plan) (count : ℕ) (ns : ℕ → Ticket) (us : ℕ → Target) → Reached g count ns us → (n : ℕ) → n < count
    → (u : LogicalUnit) × (unit_at (us (g.units n).target).units (g.units n).lun ≡ Some u) × AreTheirTickets g n ns u.tasks

-- what one move leaves: every target but this one, and the tickets of every other target
pub record LeavesOthers (g : Plan) (i : ℕ) (ks : ℕ → Ticket) (ts : ℕ → Target) (ns : ℕ → Ticket) (us : ℕ → Target) : Type 0 where
  pub targets : (j : ℕ) → j ≢ i → us j ≡ ts j
  pub tickets : (x : ℕ) → target_of g x ≢ i → ns x ≡ ks x

abbrev pub OneTargetMoves : Type 0
OneTargetMoves = (g : Plan) (count : ℕ) (ks : ℕ → Ticket) (ts : ℕ → Target) (ns : ℕ → Ticket) (us : ℕ → Target) → Reached g count ks ts → Moves g count ks ts ns us → (i : ℕ) × LeavesOthers g i ks ts ns us

-- what a call makes of target i that no task is connected to: its link alone changes, and still no task is connected
abbrev pub Relinks : Plan → ℕ → Target → Target → Type 0
Relinks g i t s = (l : ConnectionState) × IsIdle l × MayLink g i l × (s ≡ linked t l)

-- the calls of the bus that no task takes part in, each a move of the machine; BUS DEVICE RESET, where a target is selected, is a reset of it
pub record IdleCallsRelink : Type 0 where
  pub selected : (g : Plan) (i : ℕ) (t : Target) → (is_rogue t ≡ true → HasRogue g i) → Relinks g i t (target_selected t)
  pub acted : (g : Plan) (i : ℕ) (t : Target) (m : Move) → IsIdle t.link → MayLink g i t.link → Relinks g i t (target_acted t m)
  pub asked : (g : Plan) (i : ℕ) (t : Target) → IsIdle t.link → MayLink g i t.link → Relinks g i t (linked t (asked_by t.link))
  pub sent : (g : Plan) (i : ℕ) (t : Target) → IsIdle t.link → MayLink g i t.link → Relinks g i t (linked t (sent_if (link_byte t.link) t.link))
  pub taken : (g : Plan) (i : ℕ) (t : Target) (b : ℕ) → IsIdle t.link → MayLink g i t.link → Relinks g i t (linked t (took_if (link_takes t.link) t.link b))
  pub messaged : (g : Plan) (i : ℕ) (t : Target) → IsIdle t.link → MayLink g i t.link → Relinks g i t (target_messaged t) ⊎ (target_messaged t ≡ target_reset t)
  pub acked : (g : Plan) (i : ℕ) (t : Target) → IsIdle t.link → MayLink g i t.link → Relinks g i t (target_acked t)
  pub moves : (g : Plan) (count : ℕ) (ks : ℕ → Ticket) (ts : ℕ → Target) (i : ℕ) (s : Target) → IsIdle (ts i).link → Relinks g i (ts i) s → CallMoves g count ks ts ks (with_at ts i s)
