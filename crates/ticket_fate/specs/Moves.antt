-- One move of tickets and targets: a step of one ticket alone, or a call of the bus with what it makes of its ticket. Source: own.
use Rattle.std.specs.Prelude.{◌≡◌, ℕ, ◌<◌, ◌≤◌, Bool, true, false, List, length, Some, slice_get}
use Rattle.scsi_words.specs.declared.statuses.kinds.Status.{Status}
use Rattle.scsi_words.specs.declared.statuses.kinds.Status.TheVariants.{Check}
use Rattle.scsi_words.specs.Statuses.{status_code}
use Rattle.cdb_codec.specs.declared.commands.Cdb.TheVariants.{RequestSense}
use Rattle.rig_types.specs.declared.report.Outcome.{Outcome}
use Rattle.rig_types.specs.declared.report.Outcome.TheVariants.{Done, Cut, Reset, NoTarget}
use Rattle.unit_law.specs.Log.{View, with_at}
use Rattle.unit_law.specs.Request.{command}
use Rattle.target_law.specs.declared.moves.Move.{Move}
use Rattle.target_law.specs.declared.nexus.Nexus.{Nexus}
use Rattle.target_law.specs.declared.task_phase.TargetMessage.{TargetMessage}
use Rattle.target_law.specs.declared.task_phase.TargetMessage.TheVariants.{CommandComplete, Disconnect}
use Rattle.target_law.specs.declared.task_phase.TaskPhase.TheVariants.{ToChoose, MessageOut, DataOut, MessageIn}
use Rattle.target_law.specs.declared.task_phase.Completion.{Completion}
use Rattle.target_law.specs.declared.task_phase.Completion.TheVariants.{Answered as HasAnswered, Refused}
use Rattle.target_law.specs.Session.{Task, Session, acted, closed, began}
use Rattle.target_law.specs.Lawful.{CanOf}
use Rattle.target_law.specs.Bytes.{Connection, byte_by, sent_by, took_by, heard_by, away}
use Rattle.target_law.specs.Target as connection_state
use Rattle.target_law.specs.Target.{LogicalUnit, ConnectionState, BusFree, TakingCommand, TaskConnected, RogueConnected, Target, unit_at, with_unit, session, linked, ends, leaves, drops, target_reset}
use Rattle.target_law.specs.Calls.{target_acted, task_reselected, begun, has_ended}
use Rattle.logs_have_room.specs.Room.{entries}
use Rattle.ticket_fate.specs.Tickets.{Plan, unit_of, Life, Unbuilt, Built, Linked, ToRequeue, Waits, Selected, Connected, Away, Lost, Rejected, Finished, Checked, Asks, AskStarts, AskConnected, AskLost, Asked, AtRogue, Ended, Unlinked, Freed, Ticket, with_life, built_ticket, queued_ticket, asking_ticket, rogue_ticket, freed_ticket, ticket_sent, ticket_asked, view_for}
use Rattle.ticket_fate.specs.Linked.{HasRogue, ResetCause, ByBus, CanReset, reset_tickets}

-- what the verdict that is shown says: LASTP stands at the position, and STATUS has the byte
abbrev pub CompletesTicket : Completion → Plan → ℕ → Ticket → Session → Ticket → Type 0
CompletesTicket (HasAnswered st) g t k s j = (k.lastp ≡ s.task.position) × (k.status ≡ status_code st) × (j ≡ with_life k (Finished Done))
CompletesTicket (Refused st) g t k s j = (k.status ≡ status_code st) × (j ≡ with_life k (Rejected st))

-- the connected task goes among the others first
abbrev pub parts_ticket : (ℕ → Ticket) → Connection → Ticket
parts_ticket tickets c = record (tickets c.task.ticket) { life = Away; task = away c.task; savep = c.task.saved }

-- it is to ask for the sense once it is taken: it ended with CHECK CONDITION, its unit keeps the rules, the driver asks, and no abort marked it
pub record IsToAsk (g : Plan) (x : ℕ) (k : Ticket) : Type 0 where
  pub keeps : (g.units (unit_of g x)).rogue ≡ false
  pub checked : k.status ≡ status_code Check
  pub autosense : g.autosense ≡ true
  pub unmarked : k.marked ≡ false

-- a step of one ticket by itself
pub data TicketMove (g : Plan) (x : ℕ) (v : View) : Ticket → Ticket → Type 0 where
  builds : {k : Ticket} (tag : ℕ) → k.life ≡ Unbuilt → TicketMove g x v k (built_ticket (g.requests x) tag (entries v.tally) k)
  links : {k : Ticket} → k.life ≡ Built → TicketMove g x v k (with_life k Linked)
  queues : {k : Ticket} → k.life ≡ Linked → TicketMove g x v k (queued_ticket k v.tally.clears)
  requeues : {k : Ticket} → k.life ≡ ToRequeue → TicketMove g x v k (queued_ticket k k.since)
  selects : {k : Ticket} → k.life ≡ Waits → (g.units (unit_of g x)).absent ≡ false → (g.units (unit_of g x)).rogue ≡ false → TicketMove g x v k (with_life k Selected)
  times_out : {k : Ticket} → k.life ≡ Waits → (g.units (unit_of g x)).absent ≡ true → TicketMove g x v k (with_life k (Finished NoTarget))
  cancels : {k : Ticket} → k.life ≡ Waits → k.marked ≡ true → TicketMove g x v k (with_life k (Finished Cut))
  takes_again : {k : Ticket} (st : Status) → k.life ≡ Rejected st → k.tries ≤ g.retries → TicketMove g x v k (with_life k ToRequeue)
  takes_refused : {k : Ticket} (st : Status) → k.life ≡ Rejected st → g.retries < k.tries → TicketMove g x v k (with_life k (Ended Done))
  takes : {k : Ticket} (o : Outcome) → k.life ≡ Finished o → (o ≡ Done → IsToAsk g x k → ⊥) → TicketMove g x v k (with_life k (Ended o))
  takes_checked : {k : Ticket} → k.life ≡ Finished Done → IsToAsk g x k → TicketMove g x v k (with_life k Checked)
  asks : {k : Ticket} (area : List ℕ) → k.life ≡ Checked → length area ≡ 18 → TicketMove g x v k (asking_ticket k area)
  ask_selects : {k : Ticket} → k.life ≡ Asks → TicketMove g x v k (with_life k AskStarts)
  takes_sense : {k : Ticket} → k.life ≡ Asked → TicketMove g x v k (record k { life = Ended Done; sense = k.area })
  sweeps_asking : {k : Ticket} → k.life ≡ AskLost → TicketMove g x v k (with_life k (Ended Done))
  selects_rogue : {k : Ticket} → k.life ≡ Waits → (g.units (unit_of g x)).rogue ≡ true → TicketMove g x v k (with_life k AtRogue)
  rogue_moves : {k : Ticket} (status lastp savep tries : ℕ) (buffer area : List ℕ) → k.life ≡ AtRogue → TicketMove g x v k (rogue_ticket k status lastp savep tries buffer area)
  ends_rogue : {k : Ticket} (o : Outcome) → k.life ≡ AtRogue → TicketMove g x v k (with_life k (Ended o))
  sweeps : {k : Ticket} → k.life ≡ Lost → TicketMove g x v k (with_life k (Ended Reset))
  unlinks : {k : Ticket} (o : Outcome) → k.life ≡ Ended o → TicketMove g x v k (with_life k (Unlinked o))
  frees : {k : Ticket} (o : Outcome) → k.life ≡ Unlinked o → TicketMove g x v k (freed_ticket k o v.tally)

-- a connected ticket's pointers are written, at any value: the points of the chip say which
abbrev pub pointed_ticket : Ticket → (lastp savep : ℕ) → Ticket
pointed_ticket k lastp savep = record k { lastp = lastp; savep = savep }

-- an abort of it answers Marked
abbrev pub marked_ticket : Ticket → Ticket
marked_ticket k = record k { marked = true }

abbrev pub CanMark : Life → Type 0
CanMark Unbuilt = ⊥
CanMark Checked = ⊥
CanMark Asks = ⊥
CanMark AskStarts = ⊥
CanMark AskConnected = ⊥
CanMark AskLost = ⊥
CanMark Asked = ⊥
CanMark (Ended o) = ⊥
CanMark (Unlinked o) = ⊥
CanMark (Freed o) = ⊥
CanMark _ = Unit {0}

-- no task is connected
abbrev pub IsIdle : ConnectionState → Type 0
IsIdle BusFree = Unit {0}
IsIdle (connection_state.Selected heard) = Unit {0}
IsIdle (TakingCommand n taken) = Unit {0}
IsIdle (TaskConnected c) = ⊥
IsIdle (RogueConnected s n) = Unit {0}

-- only a target with a unit that breaks the rules may be connected as one
abbrev pub MayLink : Plan → ℕ → ConnectionState → Type 0
MayLink g i (RogueConnected s n) = HasRogue g i
MayLink g i l = Unit {0}

abbrev pub target_of : Plan → ℕ → ℕ
target_of g x = (g.units (unit_of g x)).target

-- A ticket takes a step by itself, gets other pointers, or is marked by an abort. A target changes its link where no task is connected; a connected
-- task makes a lawful move, sends or receives a byte at the place of its pointer, hears a message, has one acknowledged, leaves the bus, completes,
-- or is dropped by ABORT TAG; a sense task sends a byte and completes; a task of a unit reselects; the command of a selected
-- ticket begins, or its REQUEST SENSE; a target is reset, without a connected task, with one, or with a sense task.
pub data Moves (g : Plan) (count : ℕ) : (ℕ → Ticket) → (ℕ → Target) → (ℕ → Ticket) → (ℕ → Target) → Type 0 where
  alone : {ks : ℕ → Ticket} {ts : ℕ → Target} (x : ℕ) (k : Ticket) (u : LogicalUnit) → unit_at (ts (target_of g x)).units (g.units (unit_of g x)).lun ≡ Some u
      → TicketMove g x (view_for g x u.log) (ks x) k → Moves g count ks ts (with_at ks x k) ts
  points : {ks : ℕ → Ticket} {ts : ℕ → Target} (x lastp savep : ℕ) → (ks x).life ≡ Connected → Moves g count ks ts (with_at ks x (pointed_ticket (ks x) lastp savep)) ts
  marks : {ks : ℕ → Ticket} {ts : ℕ → Target} (x : ℕ) → CanMark (ks x).life → Moves g count ks ts (with_at ks x (marked_ticket (ks x))) ts
  relinks : {ks : ℕ → Ticket} {ts : ℕ → Target} (i : ℕ) (l : ConnectionState) → IsIdle (ts i).link → IsIdle l → MayLink g i l → Moves g count ks ts ks (with_at ts i (linked (ts i) l))
  acts : {ks : ℕ → Ticket} {ts : ℕ → Target} (i : ℕ) (c : Connection) (u : LogicalUnit) (m : Move) → (ts i).link ≡ TaskConnected c → unit_at (ts i).units c.lun ≡ Some u → c.shows ≡ ToChoose
      → CanOf u c m → Moves g count ks ts (with_at ks c.task.ticket (record (ks c.task.ticket) { task = (acted m (session u c)).task })) (with_at ts i (target_acted (ts i) m))
  sends : {ks : ℕ → Ticket} {ts : ℕ → Target} (i : ℕ) (c : Connection) (at b : ℕ) → (ts i).link ≡ TaskConnected c → c.task.senses ≡ false → at ≡ c.task.position → byte_by c.shows c.task c.lun ≡ Some b
      → Moves g count ks ts (with_at ks c.task.ticket (ticket_sent c.shows at b (ks c.task.ticket) (sent_by c.shows c).task)) (with_at ts i (linked (ts i) (TaskConnected (sent_by c.shows c))))
  receives : {ks : ℕ → Ticket} {ts : ℕ → Target} (i : ℕ) (c : Connection) (n at b : ℕ) → (ts i).link ≡ TaskConnected c → c.task.senses ≡ false → c.shows ≡ DataOut n → at ≡ c.task.position → slice_get (ks c.task.ticket).buffer at ≡ Some b
      → Moves g count ks ts (with_at ks c.task.ticket (record (ks c.task.ticket) { task = (took_by (DataOut n) c b).task })) (with_at ts i (linked (ts i) (TaskConnected (took_by (DataOut n) c b))))
  hears : {ks : ℕ → Ticket} {ts : ℕ → Target} (i : ℕ) (c : Connection) (n : TargetMessage) (s : Bool) → (ts i).link ≡ TaskConnected c → c.task.senses ≡ false → c.shows ≡ MessageIn n s → ((v : Completion) → n ≡ CommandComplete v → ⊥) → (n ≡ Disconnect → ⊥)
      → Moves g count ks ts (with_at ks c.task.ticket (record (ks c.task.ticket) { task = (heard_by n c).task })) (with_at ts i (linked (ts i) (TaskConnected (heard_by n c))))
  listens : {ks : ℕ → Ticket} {ts : ℕ → Target} (i : ℕ) (c : Connection) (heard : List ℕ) → (ts i).link ≡ TaskConnected c → c.task.senses ≡ false
      → Moves g count ks ts (with_at ks c.task.ticket (record (ks c.task.ticket) { task = c.task })) (with_at ts i (linked (ts i) (TaskConnected (record c { heard = heard; shows = MessageOut }))))
  leaves_bus : {ks : ℕ → Ticket} {ts : ℕ → Target} (i : ℕ) (c : Connection) (u : LogicalUnit) → (ts i).link ≡ TaskConnected c → c.task.senses ≡ false → unit_at (ts i).units c.lun ≡ Some u → (ks c.task.ticket).savep ≡ c.task.saved
      → Moves g count ks ts (with_at ks c.task.ticket (record (ks c.task.ticket) { life = Away; task = away c.task })) (with_at ts i (leaves (ts i) c u))
  completes : {ks : ℕ → Ticket} {ts : ℕ → Target} (i : ℕ) (c : Connection) (u : LogicalUnit) (v : Completion) (s : Bool) (k : Ticket) → (ts i).link ≡ TaskConnected c → c.task.senses ≡ false → unit_at (ts i).units c.lun ≡ Some u
      → c.shows ≡ MessageIn (CommandComplete v) s → CompletesTicket v g c.task.ticket (ks c.task.ticket) (session u c) k
      → Moves g count ks ts (with_at ks c.task.ticket k) (with_at ts i (ends (ts i) c u (closed v (session u c))))
  drops_task : {ks : ℕ → Ticket} {ts : ℕ → Target} (i : ℕ) (c : Connection) (u : LogicalUnit) → (ts i).link ≡ TaskConnected c → c.task.senses ≡ false → unit_at (ts i).units c.lun ≡ Some u → (ks c.task.ticket).marked ≡ true
      → Moves g count ks ts (with_at ks c.task.ticket (with_life (ks c.task.ticket) (Finished Cut))) (with_at ts i (record { units = with_unit (ts i).units c.lun (drops u c.task); link = BusFree }))
  reselects : {ks : ℕ → Ticket} {ts : ℕ → Target} (n m : ℕ) (u : LogicalUnit) (k : Task) → n < count → IsIdle (ts (g.units n).target).link → unit_at (ts (g.units n).target).units (g.units n).lun ≡ Some u → slice_get u.tasks m ≡ Some k
      → Moves g count ks ts (with_at ks k.ticket (record (ks k.ticket) { life = Connected; task = k })) (with_at ts (g.units n).target (task_reselected (ts (g.units n).target) (g.units n).lun m u (Some k)))
  begins : {ks : ℕ → Ticket} {ts : ℕ → Target} (x : ℕ) (n : Nexus) (u : LogicalUnit) → IsIdle (ts (target_of g x)).link → unit_at (ts (target_of g x)).units n.lun ≡ Some u → n.lun ≡ (g.units (unit_of g x)).lun
      → n.tag ≡ (ks x).tag → (ks x).life ≡ Selected → ((y : ℕ) → unit_of g y ≡ unit_of g x → (ks y).life ≡ Away → (ks y).tag ≡ (ks x).tag → ⊥)
      → Moves g count ks ts (with_at ks x (record (ks x) { life = Connected; task = began n.tag x (command (g.requests x)) u.rig.disconnects (has_ended u.log x) }))
      (with_at ts (target_of g x) (begun (ts (target_of g x)) n (command (g.requests x)) u x))
  ask_sends : {ks : ℕ → Ticket} {ts : ℕ → Target} (i : ℕ) (c : Connection) (at b : ℕ) → (ts i).link ≡ TaskConnected c → c.task.senses ≡ true → at ≡ c.task.position → byte_by c.shows c.task c.lun ≡ Some b
      → Moves g count ks ts (with_at ks c.task.ticket (ticket_asked c.shows at b (ks c.task.ticket) (sent_by c.shows c).task)) (with_at ts i (linked (ts i) (TaskConnected (sent_by c.shows c))))
  ask_completes : {ks : ℕ → Ticket} {ts : ℕ → Target} (i : ℕ) (c : Connection) (u : LogicalUnit) (v : Completion) (s : Bool) → (ts i).link ≡ TaskConnected c → c.task.senses ≡ true → unit_at (ts i).units c.lun ≡ Some u
      → c.shows ≡ MessageIn (CommandComplete v) s
      → Moves g count ks ts (with_at ks c.task.ticket (with_life (ks c.task.ticket) Asked)) (with_at ts i (ends (ts i) c u (closed v (session u c))))
  ask_begins : {ks : ℕ → Ticket} {ts : ℕ → Target} (x : ℕ) (n : Nexus) (u : LogicalUnit) → IsIdle (ts (target_of g x)).link → unit_at (ts (target_of g x)).units n.lun ≡ Some u → n.lun ≡ (g.units (unit_of g x)).lun
      → n.tag ≡ (ks x).tag → (ks x).life ≡ AskStarts → ((y : ℕ) → unit_of g y ≡ unit_of g x → (ks y).life ≡ Away → (ks y).tag ≡ (ks x).tag → ⊥)
      → Moves g count ks ts (with_at ks x (record (ks x) { life = AskConnected; task = began n.tag x (RequestSense 18) u.rig.disconnects (has_ended u.log x) })) (with_at ts (target_of g x) (begun (ts (target_of g x)) n (RequestSense 18) u x))
  resets_idle : {ks : ℕ → Ticket} {ts : ℕ → Target} (i : ℕ) (b : ResetCause) → IsIdle (ts i).link → ((x : ℕ) → target_of g x ≡ i → CanReset b (ks x).life)
      → Moves g count ks ts (reset_tickets g i b (ts i) ks) (with_at ts i (target_reset (ts i)))
  resets_work : {ks : ℕ → Ticket} {ts : ℕ → Target} (i : ℕ) (b : ResetCause) (c : Connection) (u : LogicalUnit) → (ts i).link ≡ TaskConnected c → c.task.senses ≡ false → unit_at (ts i).units c.lun ≡ Some u
      → ((x : ℕ) → target_of g x ≡ i → CanReset b (ks x).life)
      → Moves g count ks ts (reset_tickets g i b (ts i) (with_at ks c.task.ticket (parts_ticket ks c))) (with_at ts i (target_reset (ts i)))
  resets_asking : {ks : ℕ → Ticket} {ts : ℕ → Target} (i : ℕ) (c : Connection) (u : LogicalUnit) → (ts i).link ≡ TaskConnected c → c.task.senses ≡ true → unit_at (ts i).units c.lun ≡ Some u
      → Moves g count ks ts (reset_tickets g i ByBus (ts i) ks) (with_at ts i (target_reset (ts i)))
