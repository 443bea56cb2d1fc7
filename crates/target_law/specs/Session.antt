-- A session: a unit with one of its tasks connected, the end of its log and what the task shows. Here is what a move makes of it, and which
-- moves are lawful. Sources: SCSI-2 6.5 messages, 6.6.13 RESTORE POINTERS, 6.6.15 SAVE DATA POINTER, 6.6.4 DISCONNECT, 7.3 status; own are
-- the budget, the limit of refusals, and when a command is performed.
use Rattle.std.specs.Prelude.{◌≡◌, ℕ, zero, suc, ◌+◌, ◌-◌, ◌<◌, ◌≤◌, ◌==◌, if◌then◌else◌, Bool, true, false, List, [], ◌∷◌, ◌++◌, length, Option, Some, None}
use Rattle.scsi_words.specs.declared.phases.kinds.Direction.{Direction}
use Rattle.scsi_words.specs.declared.phases.kinds.Direction.TheVariants.{In, Out, None as NoData}
use Rattle.scsi_words.specs.declared.statuses.kinds.Status.{Status}
use Rattle.scsi_words.specs.declared.statuses.kinds.Status.TheVariants as status
use Rattle.cdb_codec.specs.declared.commands.Cdb.{Cdb}
use Rattle.cdb_codec.specs.declared.commands.Cdb.TheVariants.{RequestSense}
use Rattle.cdb_codec.specs.Forms.{need_of}
use Rattle.plain_lun.specs.Unit.{UnitState}
use Rattle.plain_lun.specs.Performing.{Answered, Performed, perform, wants_now}
use Rattle.unit_law.specs.declared.entry.LogEntry.{LogEntry}
use Rattle.unit_law.specs.declared.entry.LogEntry.TheVariants.{Refuse, Look, End, Sense}
use Rattle.target_law.specs.declared.moves.Move.{Move}
use Rattle.target_law.specs.declared.moves.Move.TheVariants as move
use Rattle.target_law.specs.declared.task_phase.TargetMessage.{TargetMessage}
use Rattle.target_law.specs.declared.task_phase.TargetMessage.TheVariants as target_message
use Rattle.target_law.specs.declared.task_phase.TaskPhase.{TaskPhase}
use Rattle.target_law.specs.declared.task_phase.TaskPhase.TheVariants as task_phase
use Rattle.target_law.specs.declared.task_phase.TaskPhase.TheVariants.{ToChoose, DataIn, DataOut, MessageIn}
use Rattle.target_law.specs.declared.task_phase.Completion.{Completion}
use Rattle.target_law.specs.declared.task_phase.Completion.TheVariants as completion

-- A task: its tag and ticket, its command, the position of its data, the saved position, the greatest position reached, and how many moves
-- of the four that spend are left. `kept` is the answer of a command that was performed at its first data phase, `received` what a write
-- has received. It is fresh until its first move; `just_moved` says that its last move in this connection was a data phase. A sense task
-- asks for the sense of its own ticket's command, which had ended.
pub record Task : Type 0 where
  pub tag : ℕ
  pub ticket : ℕ
  pub cdb : Cdb
  pub position : ℕ
  pub saved : ℕ
  pub high : ℕ
  pub budget : ℕ
  pub kept : Option Answered
  pub received : List ℕ
  pub fresh : Bool
  pub just_moved : Bool
  pub senses : Bool

pub record Session : Type 0 where
  pub unit : UnitState
  pub log : List LogEntry
  pub task : Task
  pub shows : TaskPhase

-- the bytes of its data phases, from first to last
abbrev pub total_of : Option Answered → ℕ → ℕ
total_of (Some kept) wanted = length kept.bytes
total_of None wanted = wanted

abbrev pub total : UnitState → Task → ℕ
total u k = total_of k.kept (wants_now u k.cdb).bytes

-- how many of them are still to move
abbrev pub remaining : Session → ℕ
remaining s = total s.unit s.task - s.task.position

-- the status of its answer
abbrev pub status_by : Option Answered → Status → Status
status_by (Some kept) now = kept.status
status_by None now = now

abbrev pub status_of : UnitState → Task → Status
status_of u k = status_by k.kept (perform u k.cdb []).answer.status

-- A data phase of n bytes is lawful, or with n = 0 the status: not where the task has just moved data and wants more; of at least one byte
-- where one is left, of at most all, and of all where the budget is spent.
pub record CanGo (s : Session) (n : ℕ) : Type 0 where
  pub turn : s.task.just_moved ≡ true → remaining s ≡ 0
  pub some : 0 < remaining s → 0 < n
  pub most : n ≤ remaining s
  pub all : s.task.budget ≡ 0 → n ≡ remaining s

-- BUSY and QUEUE FULL: the task is fresh, asks for no sense, and its ticket was refused less often than the limit
pub record CanRefuse (s : Session) (limit refused : ℕ) : Type 0 where
  pub fresh : s.task.fresh ≡ true
  pub plain : s.task.senses ≡ false
  pub few : refused < limit

-- the move is lawful; `limit` is how many refusals of one ticket the unit makes, `refused` how many it made so far
abbrev pub Can : Move → Session → (limit refused : ℕ) → Type 0
Can (move.Go n) s limit refused = CanGo s n
Can move.Busy s limit refused = CanRefuse s limit refused
Can move.QueueFull s limit refused = CanRefuse s limit refused
Can move.Leave s limit refused = 0 < s.task.budget
Can move.SaveLeave s limit refused = 0 < s.task.budget
Can move.Save s limit refused = 0 < s.task.budget
Can move.Restore s limit refused = 0 < s.task.budget
Can (move.Rogue word) s limit refused = ⊥

-- a move that is no data phase
abbrev pub turned : Session → ℕ → TaskPhase → Session
turned s budget shows = record s { task = record s.task { budget = budget; fresh = false; just_moved = false }; shows = shows }

abbrev pub says : TargetMessage → TaskPhase
says n = MessageIn n false

-- one of the four moves that spend
abbrev pub spent : Session → TargetMessage → Session
spent s n = turned s (s.task.budget - 1) (says n)

abbrev pub tells : Session → Completion → Session
tells s v = turned s s.task.budget (task_phase.Status v)

-- a data phase
abbrev pub moves : Session → TaskPhase → Session
moves s shows = record s { task = record s.task { fresh = false; just_moved = true }; shows = shows }

-- the answer is kept
abbrev pub keeps : Session → Answered → Session
keeps s a = record s { task = record s.task { kept = Some a } }

-- a command that sends is performed at its first data phase, and logs Look
abbrev pub performs : Session → Performed → Session
performs s p = keeps (record s { unit = p.unit; log = s.log ++ Look s.task.ticket ∷ [] }) p.answer

-- a sense task has the sense data for its answer; the unit and the log stay
abbrev pub looked_by : Bool → Session → Performed → Session
looked_by true s p = keeps s p.answer
looked_by false s p = performs s p

abbrev pub looked : Option Answered → Session → Session
looked (Some kept) s = s
looked None s = looked_by s.task.senses s (perform s.unit s.task.cdb [])

-- a data phase by the direction of the command's data
abbrev pub phased : Direction → Session → ℕ → Session
phased In s n = moves (looked s.task.kept s) (DataIn n)
phased Out s n = moves s (DataOut n)
phased NoData s n = s

-- Go with nothing left is the status
abbrev pub gone : ℕ → Session → ℕ → Session
gone zero s n = tells s (completion.Answered (status_of s.unit s.task))
gone (suc left) s n = phased (need_of s.task.cdb).direction s n

-- the session after a move
unfoldable pub acted : Move → Session → Session
acted (move.Go n) s = gone (remaining s) s n
acted move.Busy s = tells s (completion.Refused status.Busy)
acted move.QueueFull s = tells s (completion.Refused status.QueueFull)
acted move.Leave s = spent s target_message.Disconnect
acted move.SaveLeave s = spent s target_message.SaveThenDisconnect
acted move.Save s = spent s target_message.SaveDataPointer
acted move.Restore s = spent s target_message.RestorePointers
acted (move.Rogue word) s = s

-- COMMAND COMPLETE is acknowledged. A command that wasn't performed at its first data phase is performed now.
abbrev pub ended : Option Answered → Session → Performed → Session
ended (Some kept) s p = record s { log = s.log ++ End s.task.ticket ∷ [] }
ended None s p = record s { unit = p.unit; log = s.log ++ End s.task.ticket ∷ [] }

-- only now does the unit give up the sense that a sense task has sent
abbrev pub closed_by : Bool → Session → Session
closed_by true s = record s { unit = (perform s.unit (RequestSense 18) []).unit; log = s.log ++ Sense s.task.ticket ∷ [] }
closed_by false s = ended s.task.kept s (perform s.unit s.task.cdb s.task.received)

unfoldable pub closed : Completion → Session → Session
closed (completion.Refused st) s = record s { log = s.log ++ Refuse s.task.ticket st ∷ [] }
closed (completion.Answered st) s = closed_by s.task.senses s

-- a fresh task: `ended` says that its ticket has End in the unit's log
abbrev pub asks_sense : Cdb → Bool → Bool
asks_sense (RequestSense len) ended = if len == 18 then ended else false
asks_sense c ended = false

abbrev pub budget_by : Bool → ℕ → ℕ
budget_by true disconnects = 0
budget_by false disconnects = disconnects

abbrev pub began : (tag ticket : ℕ) → Cdb → (disconnects : ℕ) → Bool → Task
began tag ticket c disconnects ended = record {
  tag = tag;
  ticket = ticket;
  cdb = c;
  position = 0;
  saved = 0;
  high = 0;
  budget = budget_by (asks_sense c ended) disconnects;
  kept = None;
  received = [];
  fresh = true;
  just_moved = false;
  senses = asks_sense c ended;
}
