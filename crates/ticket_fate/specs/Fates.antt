-- What holds of one ticket and of its unit's log, by where the ticket is in its life. Source: own.
use Rattle.std.specs.Prelude.{◌≡◌, ℕ, ◌+◌, ◌-◌, ◌≤◌, true, false, List, [], take, Some, None, ◌⊎◌}
use Rattle.scsi_words.specs.declared.phases.kinds.Direction.TheVariants.{Out}
use Rattle.scsi_words.specs.Statuses.{status_code}
use Rattle.scsi_words.specs.declared.statuses.kinds.Status.{Status}
use Rattle.scsi_words.specs.declared.statuses.kinds.Status.TheVariants.{Busy, QueueFull}
use Rattle.cdb_codec.specs.Forms.{need_of}
use Rattle.rig_types.specs.declared.report.Outcome.{Outcome}
use Rattle.rig_types.specs.declared.report.Outcome.TheVariants.{Done, Reset}
use Rattle.unit_law.specs.declared.entry.LogEntry.{LogEntry}
use Rattle.unit_law.specs.Request.{RequestData, command, received_of}
use Rattle.unit_law.specs.Log.{View}
use Rattle.unit_law.specs.Report.{Fits, EndedInCheck, holding, data_of}
use Rattle.target_law.specs.Session.{Task}
use Rattle.logs_have_room.specs.Room.{entries}
use Rattle.ticket_fate.specs.Senses.{SenseFate}
use Rattle.ticket_fate.specs.Tickets.{Plan, unit_of, setting, Life, Unbuilt, Built, Linked, ToRequeue, Waits, Selected, Connected, Away, Lost, Rejected, Finished, Checked, Asks, AskStarts, AskConnected, AskLost, Asked, AtRogue, Ended, Unlinked, Freed, Ticket, history_at, history_so_far, report_of, view_for}

-- with these a unit refuses a command (SCSI-2 7.3)
abbrev pub IsRefusal : Status → Type 0
IsRefusal st = (st ≡ Busy) ⊎ (st ≡ QueueFull)

-- the log has nothing of it but n refusals
pub record OnlyRefusals (v : View) (n : ℕ) : Type 0 where
  pub refusals : v.tally.refusals ≡ n
  pub looks : v.tally.looks ≡ 0
  pub ends : v.tally.ends ≡ 0
  pub drops : v.tally.drops ≡ 0
  pub high : v.tally.high ≡ 0
  pub senses : v.tally.senses ≡ 0
  pub answer : v.answer ≡ None

-- it is queued, and has no task yet
pub record Queued (retries : ℕ) (r : RequestData) (tries lastp savep : ℕ) (buffer : List ℕ) (v : View) : Type 0 where
  pub entries : OnlyRefusals v v.tally.refusals
  pub tried : tries ≡ v.tally.refusals + 1
  pub most : tries ≤ retries + 1
  pub holds : buffer ≡ r.bytes
  pub last : lastp ≡ 0
  pub saves : savep ≡ 0

-- it was refused as often as it was queued
pub record AllRefused (r : RequestData) (tries : ℕ) (buffer : List ℕ) (v : View) : Type 0 where
  pub entries : OnlyRefusals v tries
  pub holds : buffer ≡ r.bytes

-- It has a task, which isn't a sense task: the log has its refusals and at most its Look, the kept answer is the log's, a write has received the
-- front of the submitted bytes, and the buffer holds the data up to the greatest position.
pub record HasTask (retries : ℕ) (r : RequestData) (named tries : ℕ) (buffer : List ℕ) (x : Task) (v : View) : Type 0 where
  pub tag : x.tag ≡ named
  pub cdb : x.cdb ≡ command r
  pub plain : x.senses ≡ false
  pub tried : tries ≡ v.tally.refusals + 1
  pub most : tries ≤ retries + 1
  pub ends : v.tally.ends ≡ 0
  pub drops : v.tally.drops ≡ 0
  pub high : v.tally.high ≡ 0
  pub senses : v.tally.senses ≡ 0
  pub looks : x.kept ≡ None → v.tally.looks ≡ 0
  pub looked : v.tally.looks ≤ 1
  pub answer : v.answer ≡ x.kept
  pub received : (need_of x.cdb).direction ≡ Out → x.received ≡ take x.high (received_of r)
  pub holds : buffer ≡ holding r.direction (data_of x.kept) x.high r.bytes
  pub fresh : x.fresh ≡ true → (x.high ≡ 0) × (x.kept ≡ None)

-- the report that its Free would make, without its sense, fits
abbrev pub ReportFits : Plan → ℕ → Ticket → View → Outcome → Type 0
ReportFits g t k v o = Fits (setting g (unit_of g t)) t (g.requests t) v (history_so_far k.marked k.since k.bus_reset v) (report_of t (g.requests t) k.status k.lastp k.tries k.buffer [] o)

-- after its Free, with the history that was fixed then, and whatever was logged of it since
abbrev pub FreedReportFits : Plan → ℕ → Ticket → View → Outcome → Type 0
FreedReportFits g t k v o = Fits (setting g (unit_of g t)) t (g.requests t) v (history_at k.marked k.clears k.bus_reset (k.before + (entries v.tally - k.logged))) (report_of t (g.requests t) k.status k.lastp k.tries k.buffer [] o)

abbrev pub FitsInCheck : Plan → ℕ → Ticket → View → Type 0
FitsInCheck g t k v = ReportFits g t k v Done × EndedInCheck v

-- what holds of a ticket by its life: of its record, of its task and of its view
abbrev pub Fate : Plan → ℕ → Life → Ticket → View → Type 0
Fate g t Unbuilt k v = OnlyRefusals v 0
Fate g t Built k v = (k.tries ≡ 0) × AllRefused (g.requests t) k.tries k.buffer v
Fate g t Linked k v = (k.tries ≡ 0) × AllRefused (g.requests t) k.tries k.buffer v
Fate g t ToRequeue k v = (k.tries ≤ g.retries) × AllRefused (g.requests t) k.tries k.buffer v
Fate g t Waits k v = Queued g.retries (g.requests t) k.tries k.lastp k.savep k.buffer v
Fate g t Selected k v = Queued g.retries (g.requests t) k.tries k.lastp k.savep k.buffer v
Fate g t Connected k v = HasTask g.retries (g.requests t) k.tag k.tries k.buffer k.task v
Fate g t Away k v = HasTask g.retries (g.requests t) k.tag k.tries k.buffer k.task v × (k.savep ≡ k.task.saved) × (k.task.position ≡ k.task.saved)
Fate g t Lost k v = ReportFits g t k v Reset
Fate g t (Rejected st) k v = (k.tries ≤ g.retries + 1) × (k.status ≡ status_code st) × (v.tally.refused ≡ Some st) × IsRefusal st × AllRefused (g.requests t) k.tries k.buffer v
Fate g t (Finished o) k v = ReportFits g t k v o × (o ≡ Done → v.tally.ends ≡ 1)
Fate g t Checked k v = FitsInCheck g t k v
Fate g t Asks k v = FitsInCheck g t k v
Fate g t AskStarts k v = FitsInCheck g t k v
Fate g t AskConnected k v = FitsInCheck g t k v
Fate g t AskLost k v = FitsInCheck g t k v
Fate g t Asked k v = FitsInCheck g t k v
Fate g t AtRogue k v = (g.units (unit_of g t)).rogue ≡ true
Fate g t (Ended o) k v = ReportFits g t k v o
Fate g t (Unlinked o) k v = ReportFits g t k v o
Fate g t (Freed o) k v = FreedReportFits g t k v o

-- lives that need a target that is there and keeps the rules
abbrev pub NeedsNone : Life → Type 0
NeedsNone Selected = ⊥
NeedsNone Connected = ⊥
NeedsNone Away = ⊥
NeedsNone Lost = ⊥
NeedsNone _ = Unit {0}

-- What holds of ticket t, of its record and of its unit's log.
pub record TicketKept (g : Plan) (t : ℕ) (k : Ticket) (log : List LogEntry) : Type 0 where
  pub fate : Fate g t k.life k (view_for g t log)
  pub sense : SenseFate g t k.life k (view_for g t log)
  pub absent : (g.units (unit_of g t)).absent ≡ true → ((view_for g t log).tally.refusals ≡ 0) × NeedsNone k.life
  pub since : k.since ≤ (view_for g t log).tally.clears
  pub before : k.before ≡ 0
