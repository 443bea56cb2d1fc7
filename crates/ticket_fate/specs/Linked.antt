-- How the state of a target and the tickets fit one another. Source: own.
use Rattle.std.specs.Prelude.{◌≡◌, ℕ, ◌<◌, nat_eq, nat_lt, ◌&&◌, ◌||◌, Bool, true, false, List, [], ◌∷◌, Option, Some, None, ◌⊎◌}
use Rattle.unit_law.specs.declared.entry.LogEntry.{LogEntry}
use Rattle.unit_law.specs.Log.{run_log, tally}
use Rattle.target_law.specs.declared.task_phase.TargetMessage.{TargetMessage}
use Rattle.target_law.specs.declared.task_phase.TargetMessage.TheVariants.{CommandComplete}
use Rattle.target_law.specs.declared.task_phase.TaskPhase.{TaskPhase}
use Rattle.target_law.specs.declared.task_phase.TaskPhase.TheVariants.{ToChoose, MessageOut, DataIn, DataOut, Status, MessageIn}
use Rattle.target_law.specs.declared.task_phase.Completion.{Completion}
use Rattle.target_law.specs.declared.task_phase.Completion.TheVariants.{Answered as HasAnswered, Refused}
use Rattle.target_law.specs.Session.{Task}
use Rattle.target_law.specs.Bytes.{Connection}
use Rattle.target_law.specs.Sound.{IsSound, IsWaiting}
use Rattle.target_law.specs.Target.{LogicalUnit, ConnectionState, TaskConnected, RogueConnected, Target, unit_at, session}
use Rattle.ticket_fate.specs.Tickets.{Plan, unit_of, opening, Life, Selected, Connected, Away, Lost, Asks, AskStarts, AskConnected, AskLost, is_live, Ticket, IsAccepted}
use Rattle.ticket_fate.specs.Senses.{AsksTask}
use Rattle.ticket_fate.specs.Fates.{IsRefusal, TicketKept}

-- the units of the rig, by their numbers
pub record IsPlan (g : Plan) (count : ℕ) : Type 0 where
  pub accepted : (t : ℕ) → IsAccepted (g.requests t)
  pub known : (t : ℕ) → unit_of g t < count
  pub apart : (m n : ℕ) → (g.units m).target ≡ (g.units n).target → (g.units m).lun ≡ (g.units n).lun → m ≡ n

-- a task of the ticket is in the list, or isn't
abbrev pub HasTaskOf : ℕ → List Task → Type 0
HasTaskOf x [] = ⊥
HasTaskOf x (k ∷ ks) = (k.ticket ≡ x) ⊎ HasTaskOf x ks

abbrev pub HasNoTaskOf : ℕ → List Task → Type 0
HasNoTaskOf x [] = Unit {0}
HasNoTaskOf x (k ∷ ks) = (k.ticket ≡ x → ⊥) × HasNoTaskOf x ks

-- a task that waits at unit n is that of its ticket, which is away
pub record IsAwayTask (g : Plan) (n : ℕ) (tickets : ℕ → Ticket) (k : Task) : Type 0 where
  pub unit : unit_of g k.ticket ≡ n
  pub life : (tickets k.ticket).life ≡ Away
  pub task : (tickets k.ticket).task ≡ k

abbrev pub AwayTasks : Plan → ℕ → (ℕ → Ticket) → List Task → Type 0
AwayTasks g n tickets [] = Unit {0}
AwayTasks g n tickets (k ∷ ks) = IsAwayTask g n tickets k × HasNoTaskOf k.ticket ks × AwayTasks g n tickets ks

-- the tasks that wait at unit n: each ticket once, and every ticket of the unit that is away
pub record WaitingTasks (g : Plan) (n : ℕ) (tickets : ℕ → Ticket) (ks : List Task) : Type 0 where
  pub tasks : AwayTasks g n tickets ks
  pub whole : (x : ℕ) → unit_of g x ≡ n → (tickets x).life ≡ Away → HasTaskOf x ks

-- a unit that keeps the rules, and its tickets
pub record UnitKept (g : Plan) (n : ℕ) (tickets : ℕ → Ticket) (u : LogicalUnit) : Type 0 where
  pub rig : u.rig ≡ g.units n
  pub plain : u.plain ≡ (run_log g.requests (opening g n) u.log).unit
  pub each : (t : ℕ) → unit_of g t ≡ n → TicketKept g t (tickets t) u.log
  pub lists : WaitingTasks g n tickets u.tasks
  pub waiting : (t : ℕ) → unit_of g t ≡ n → (tickets t).life ≡ Away → IsWaiting u.plain (tickets t).task

-- a refusal is BUSY or QUEUE FULL and comes before anything has moved; a data phase comes from a task that isn't fresh
abbrev pub VerdictFits : Completion → Task → Type 0
VerdictFits (HasAnswered st) k = Unit {0}
VerdictFits (Refused st) k = (k.high ≡ 0) × (k.kept ≡ None) × IsRefusal st

abbrev pub NoteFits : TargetMessage → Task → Type 0
NoteFits (CommandComplete v) k = VerdictFits v k
NoteFits n k = Unit {0}

abbrev pub ShownFits : TaskPhase → Task → Type 0
ShownFits ToChoose k = Unit {0}
ShownFits MessageOut k = Unit {0}
ShownFits (DataIn n) k = k.fresh ≡ false
ShownFits (DataOut n) k = k.fresh ≡ false
ShownFits (Status v) k = VerdictFits v k
ShownFits (MessageIn n sent) k = NoteFits n k

-- a connected task that isn't a sense task
pub record IsAtWork (g : Plan) (i : ℕ) (tickets : ℕ → Ticket) (t : Target) (c : Connection) : Type 0 where
  pub target : (g.units (unit_of g c.task.ticket)).target ≡ i
  pub lun : c.lun ≡ (g.units (unit_of g c.task.ticket)).lun
  pub life : (tickets c.task.ticket).life ≡ Connected
  pub task : (tickets c.task.ticket).task ≡ c.task
  pub sound : (u : LogicalUnit) → unit_at t.units c.lun ≡ Some u → IsSound (session u c)
  pub worth : ShownFits c.shows c.task

-- what a sense task shows: a choice, its data, its status, COMMAND COMPLETE after an answer
abbrev pub HasAnswer : Completion → Type 0
HasAnswer (HasAnswered st) = Unit {0}
HasAnswer (Refused st) = ⊥

abbrev pub NoteOfSense : TargetMessage → Type 0
NoteOfSense (CommandComplete v) = HasAnswer v
NoteOfSense n = ⊥

abbrev pub ShownBySense : TaskPhase → Type 0
ShownBySense ToChoose = Unit {0}
ShownBySense MessageOut = ⊥
ShownBySense (DataIn n) = Unit {0}
ShownBySense (DataOut n) = ⊥
ShownBySense (Status v) = HasAnswer v
ShownBySense (MessageIn n sent) = NoteOfSense n

-- a connected sense task
pub record IsAsking (g : Plan) (i : ℕ) (tickets : ℕ → Ticket) (t : Target) (c : Connection) : Type 0 where
  pub target : (g.units (unit_of g c.task.ticket)).target ≡ i
  pub lun : c.lun ≡ (g.units (unit_of g c.task.ticket)).lun
  pub life : (tickets c.task.ticket).life ≡ AskConnected
  pub tag : (tickets c.task.ticket).tag ≡ c.task.tag
  pub sound : (u : LogicalUnit) → unit_at t.units c.lun ≡ Some u → IsSound (session u c)
  pub shows : ShownBySense c.shows
  pub start : List ℕ
  pub asks : (u : LogicalUnit) → unit_at t.units c.lun ≡ Some u → AsksTask u.plain c.task (tickets c.task.ticket).area start

abbrev pub WorkKept : (senses : Bool) → Plan → ℕ → (ℕ → Ticket) → Target → Connection → Type 0
WorkKept false g i tickets t c = IsAtWork g i tickets t c
WorkKept true g i tickets t c = IsAsking g i tickets t c

-- a unit of the target breaks the rules
pub record HasRogue (g : Plan) (i : ℕ) : Type 0 where
  pub unit : ℕ
  pub target : (g.units unit).target ≡ i
  pub rogue : (g.units unit).rogue ≡ true

abbrev pub LinkKept : ConnectionState → Plan → ℕ → (ℕ → Ticket) → Target → Type 0
LinkKept (TaskConnected c) g i tickets t = WorkKept c.task.senses g i tickets t c
LinkKept (RogueConnected s n) g i tickets t = HasRogue g i
LinkKept _ g i tickets t = Unit {0}

-- every unit of the target
abbrev pub UnitsKept : Plan → ℕ → ℕ → (ℕ → Ticket) → Target → Type 0
UnitsKept g count i tickets t = (n : ℕ) → n < count → (g.units n).target ≡ i → (u : LogicalUnit) × (unit_at t.units (g.units n).lun ≡ Some u) × UnitKept g n tickets u

pub record TargetKept (g : Plan) (count i : ℕ) (tickets : ℕ → Ticket) (t : Target) : Type 0 where
  pub units : UnitsKept g count i tickets t
  pub link : LinkKept t.link g i tickets t

-- why a target is reset: with the whole bus, or by BUS DEVICE RESET, which an act started
pub data ResetCause : Type 0 where
  ByBus : ResetCause
  ByDevice : ResetCause

-- What a reset of its target does to a ticket: a task is lost, and a selection with no task yet. A bus reset also takes the request for sense
-- that waits at FRONT.
abbrev pub front_life : ResetCause → Life
front_life ByBus = AskLost
front_life ByDevice = Asks

abbrev pub lost_life : ResetCause → Life → Life
lost_life b Selected = Lost
lost_life b Connected = Lost
lost_life b Away = Lost
lost_life b Asks = front_life b
lost_life b AskStarts = AskLost
lost_life b AskConnected = AskLost
lost_life b l = l

-- whether the bus was reset between the End of a ticket and its Free; `ends` is how many Ends of it the log has
abbrev pub flagged : ResetCause → Bool → (ends : ℕ) → Life → Bool
flagged ByBus flag ends l = flag || (nat_lt 0 ends && is_live l)
flagged ByDevice flag ends l = flag

abbrev pub lost_ticket : ResetCause → (ends : ℕ) → Ticket → Ticket
lost_ticket b ends k = record k { life = lost_life b k.life; bus_reset = flagged b k.bus_reset ends k.life }

abbrev pub reset_ticket : Bool → ResetCause → (ends : ℕ) → Ticket → Ticket
reset_ticket true b ends k = lost_ticket b ends k
reset_ticket false b ends k = k

-- the log of a ticket's unit in its target
abbrev pub log_in : Option LogicalUnit → List LogEntry
log_in (Some u) = u.log
log_in None = []

abbrev pub log_of : Plan → Target → ℕ → List LogEntry
log_of g t x = log_in (unit_at t.units (g.units (unit_of g x)).lun)

abbrev pub reset_tickets : Plan → ℕ → ResetCause → Target → (ℕ → Ticket) → ℕ → Ticket
reset_tickets g i b t tickets x = reset_ticket (nat_eq (g.units (unit_of g x)).target i) b (tally x (log_of g t x)).ends (tickets x)

-- a device reset comes in a connection of its own, in which no request for sense is under way at the target
abbrev pub CanReset : ResetCause → Life → Type 0
CanReset ByDevice AskStarts = ⊥
CanReset ByDevice AskConnected = ⊥
CanReset b l = Unit {0}
