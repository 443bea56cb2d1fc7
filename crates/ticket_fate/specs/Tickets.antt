-- A ticket without host memory: numbers and lists. Source: own.
use Rattle.std.specs.Prelude.{◌≡◌, ℕ, ◌+◌, ◌-◌, ◌<◌, ◌≤◌, ◌==◌, if◌then◌else◌, Bool, true, false, List, [], length}
use Rattle.scsi_words.specs.declared.statuses.kinds.Status.{Status}
use Rattle.scsi_words.specs.declared.statuses.kinds.Status.TheVariants.{Good}
use Rattle.scsi_words.specs.Statuses.{status_code}
use Rattle.cdb_codec.specs.Forms.{FitsForm, need_of}
use Rattle.rig_types.specs.declared.rig.Unit.{Unit as RigUnit}
use Rattle.rig_types.specs.declared.report.Outcome.{Outcome}
use Rattle.rig_types.specs.declared.report.Outcome.TheVariants.{Done}
use Rattle.rig_types.specs.declared.report.Report.{Report}
use Rattle.plain_lun.specs.Unit.{UnitState, opened}
use Rattle.unit_law.specs.declared.entry.LogEntry.{LogEntry}
use Rattle.unit_law.specs.Request.{RequestData, command}
use Rattle.unit_law.specs.Log.{Tally, View, view_of}
use Rattle.unit_law.specs.Report.{UnitSetting, TicketHistory, no_status}
use Rattle.logs_have_room.specs.Room.{entries}
use Rattle.target_law.specs.declared.task_phase.TaskPhase.{TaskPhase}
use Rattle.target_law.specs.declared.task_phase.TaskPhase.TheVariants as task_phase
use Rattle.target_law.specs.declared.task_phase.TaskPhase.TheVariants.{DataIn}
use Rattle.target_law.specs.Session.{Task}
use Rattle.target_law.specs.Bytes.{put}

-- what stays for a whole run: the requests by ticket, the units by their numbers, and the rig's word on retries and autosense
pub record Plan : Type 0 where
  pub requests : ℕ → RequestData
  pub units : ℕ → RigUnit
  pub retries : ℕ
  pub autosense : Bool

abbrev pub unit_of : Plan → ℕ → ℕ
unit_of g t = (g.requests t).unit

abbrev pub setting : Plan → ℕ → UnitSetting
setting g n = record { retries = g.retries; autosense = g.autosense; absent = (g.units n).absent; rogue = (g.units n).rogue }

unfoldable pub opening : Plan → ℕ → UnitState
opening g n = opened (g.units n).blocks (g.units n).pattern

-- what the driver accepts: a command in form whose need goes the buffer's way and has room in it
pub record IsAccepted (r : RequestData) : Type 0 where
  pub form : FitsForm (command r)
  pub way : 0 < (need_of (command r)).bytes → (need_of (command r)).direction ≡ r.direction
  pub enough : (need_of (command r)).bytes ≤ length r.bytes
  pub small : length r.bytes ≤ 65536

-- Where a ticket is in its life; its stage, STATE and the place of its task are functions of it. It isn't built; it is built; it is linked; it
-- is to be queued again; it waits in the start ring; it is selected and has no task; its task is connected, or away, or was dropped by a reset;
-- the unit refused it; it came to an outcome, and waits to be taken. It ended with CHECK CONDITION and is to ask for sense; it waits at FRONT to
-- ask, is selected, has a connected sense task, lost it by a bus reset, or has asked and waits to be taken. Its unit breaks the rules, from its
-- first selection until it has an outcome. It was taken with its outcome, unlinked, freed.
pub data Life : Type 0 where
  Unbuilt : Life
  Built : Life
  Linked : Life
  ToRequeue : Life
  Waits : Life
  Selected : Life
  Connected : Life
  Away : Life
  Lost : Life
  Rejected : Status → Life
  Finished : Outcome → Life
  Checked : Life
  Asks : Life
  AskStarts : Life
  AskConnected : Life
  AskLost : Life
  Asked : Life
  AtRogue : Life
  Ended : Outcome → Life
  Unlinked : Outcome → Life
  Freed : Outcome → Life

-- A ticket: its tag; the status byte of its first end; how much of the buffer lies before the active and the saved data pointer; the buffer, the
-- sense area and the sense of its report; whether an abort of it answered Marked; how often it was queued; how many Clears its unit's log had
-- when it was first queued, and how many came from then to its Free; how many entries its log had of it at its Build, and at its Free; whether the
-- bus was reset between its End and its Free; and its task, where it has one
pub record Ticket : Type 0 where
  pub life : Life
  pub tag : ℕ
  pub status : ℕ
  pub lastp : ℕ
  pub savep : ℕ
  pub buffer : List ℕ
  pub area : List ℕ
  pub sense : List ℕ
  pub marked : Bool
  pub tries : ℕ
  pub since : ℕ
  pub clears : ℕ
  pub before : ℕ
  pub logged : ℕ
  pub bus_reset : Bool
  pub task : Task

abbrev pub with_life : Ticket → Life → Ticket
with_life k l = record k { life = l }

-- the history of a ticket with so many Clears, and so many of its entries outside its life; of the causes of Clears nothing is said here
abbrev pub history_at : (marked : Bool) → (clears : ℕ) → (bus_reset : Bool) → (outside : ℕ) → TicketHistory
history_at marked clears bus_reset outside = record { marked = marked; clears = clears; bus_reset = bus_reset; outside = outside; uncaused_clears = 0 }

-- the history so far, before its Free
abbrev pub history_so_far : (marked : Bool) → (since : ℕ) → (bus_reset : Bool) → View → TicketHistory
history_so_far marked since bus_reset v = history_at marked (v.tally.clears - since) bus_reset 0

-- what a report says of an outcome
abbrev pub status_for : Outcome → ℕ → ℕ
status_for Done status = status
status_for o status = no_status

abbrev pub residual_for : Outcome → (status lastp size : ℕ) → ℕ
residual_for Done status lastp size = if status == status_code Good then size - lastp else size
residual_for o status lastp size = size

abbrev pub report_of : ℕ → RequestData → (status lastp tries : ℕ) → (bytes sense : List ℕ) → Outcome → Report
report_of t r status lastp tries bytes sense o = record {
  ticket = t;
  unit = r.unit;
  outcome = o;
  status = status_for o status;
  residual = residual_for o status lastp (length r.bytes);
  tries = tries;
  bytes = bytes;
  sense = sense;
}

abbrev pub view_for : Plan → ℕ → List LogEntry → View
view_for g t log = view_of g.requests (opening g (unit_of g t)) log t

abbrev pub built_ticket : RequestData → (tag before : ℕ) → Ticket → Ticket
built_ticket r tag before k = record k { life = Built; tag = tag; status = no_status; lastp = 0; savep = 0; buffer = r.bytes; area = []; sense = []; tries = 0; before = before; logged = 0 }

-- it goes into the start ring; at the first time the Clears so far are noted
abbrev pub queued_ticket : Ticket → ℕ → Ticket
queued_ticket k since = record k { life = Waits; status = no_status; lastp = 0; savep = 0; tries = k.tries + 1; since = since }

-- a ticket is live from its Build to its Free
abbrev pub is_live : Life → Bool
is_live Unbuilt = false
is_live (Freed o) = false
is_live _ = true

-- what a byte from the target changes of its ticket: a byte of the data goes to its place in the buffer, a status byte into the block
abbrev pub ticket_sent : TaskPhase → (at b : ℕ) → Ticket → Task → Ticket
ticket_sent (DataIn n) at b k x = record k { buffer = put k.buffer at b; task = x }
ticket_sent (task_phase.Status v) at b k x = record k { status = b; task = x }
ticket_sent _ at b k x = record k { task = x }

-- its Free fixes its history
abbrev pub freed_ticket : Ticket → Outcome → Tally → Ticket
freed_ticket k o n = record k { life = Freed o; clears = n.clears - k.since; logged = entries n }

-- the report that its Free makes
abbrev pub freed_report : ℕ → RequestData → Ticket → Outcome → Report
freed_report t r k o = report_of t r k.status k.lastp k.tries k.buffer k.sense o

-- it is to ask for the sense: the 18 bytes of the sense area are as they are
abbrev pub asking_ticket : Ticket → (area : List ℕ) → Ticket
asking_ticket k area = record k { life = Asks; area = area }

-- a byte of the sense goes to its place in the sense area; the status of the first end stays
abbrev pub ticket_asked : TaskPhase → (at b : ℕ) → Ticket → Task → Ticket
ticket_asked (DataIn n) at b k x = record k { area = put k.area at b; task = x }
ticket_asked _ at b k x = record k { task = x }

-- a unit that breaks the rules does what it likes with the ticket, and the driver may queue it again
abbrev pub rogue_ticket : Ticket → (status lastp savep tries : ℕ) → (buffer area : List ℕ) → Ticket
rogue_ticket k status lastp savep tries buffer area = record k { status = status; lastp = lastp; savep = savep; tries = tries; buffer = buffer; area = area }
