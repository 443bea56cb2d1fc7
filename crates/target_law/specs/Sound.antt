-- What holds of every task, session and unit of a target that keeps the rules.
use Rattle.std.specs.Prelude.{◌≡◌, ◌≢◌, ℕ, ◌+◌, ◌<◌, ◌≤◌, ◌==◌, if◌then◌else◌, Bool, true, false, List, [], ◌∷◌, length, Option, Some, None}
use Rattle.std.specs.List.{All, AllPairs}
use Rattle.scsi_words.specs.declared.phases.kinds.Direction.{Direction}
use Rattle.scsi_words.specs.declared.phases.kinds.Direction.TheVariants.{In, Out, None as NoData}
use Rattle.cdb_codec.specs.Forms.{FitsForm, need_of}
use Rattle.plain_lun.specs.Unit.{UnitState}
use Rattle.plain_lun.specs.Performing.{Answered, wants_now}
use Rattle.target_law.specs.declared.task_phase.TargetMessage.{TargetMessage}
use Rattle.target_law.specs.declared.task_phase.TargetMessage.TheVariants.{Reselection, CommandComplete, SaveThenDisconnect, SaveDataPointer, RestorePointers, Disconnect}
use Rattle.target_law.specs.declared.task_phase.TaskPhase.{TaskPhase}
use Rattle.target_law.specs.declared.task_phase.TaskPhase.TheVariants.{ToChoose, MessageOut, DataIn, DataOut, Status, MessageIn}
use Rattle.target_law.specs.declared.task_phase.Completion.{Completion}
use Rattle.target_law.specs.declared.task_phase.Completion.TheVariants.{Answered as HasAnswered, Refused}
use Rattle.target_law.specs.Session.{Task, Session, remaining, status_of}
use Rattle.target_law.specs.Choice.{Choosable}
use Rattle.target_law.specs.Target.{LogicalUnit, ConnectionState, TaskConnected, Target, unit_at}

-- a command that sends moves what is kept; one that receives was performed nowhere, and has received no more than the unit wants; nothing
-- else has moved
abbrev pub HasMoved : Direction → Option Answered → UnitState → Task → Type 0
HasMoved In (Some a) u k = (k.high ≤ length a.bytes) × (length a.bytes ≤ (need_of k.cdb).bytes) × (k.received ≡ [])
HasMoved In None u k = (k.high ≡ 0) × (k.received ≡ [])
HasMoved Out (Some a) u k = ⊥
HasMoved Out None u k = (k.high ≡ length k.received) × (length k.received ≤ (wants_now u k.cdb).bytes)
HasMoved NoData (Some a) u k = ⊥
HasMoved NoData None u k = (k.high ≡ 0) × (k.received ≡ [])

pub record IsSoundTask (u : UnitState) (k : Task) : Type 0 where
  pub fits : FitsForm k.cdb
  pub small : (need_of k.cdb).bytes ≤ 65536
  pub position : k.position ≤ k.high
  pub saved : k.saved ≤ k.high
  pub moved : HasMoved (need_of k.cdb).direction k.kept u k

-- what the shown phase is worth. A data phase has bytes left, within the data, and all of them where the budget is spent; the status told is
-- the one that the end gives; after any other message the task hasn't just moved data.
pub record IsSending (s : Session) (n : ℕ) : Type 0 where
  pub some : 0 < n
  pub kept : (a : Answered) × (s.task.kept ≡ Some a)
  pub most : n ≤ remaining s
  pub all : s.task.budget ≡ 0 → n ≡ remaining s

pub record IsReceiving (s : Session) (n : ℕ) : Type 0 where
  pub some : 0 < n
  pub way : (need_of s.task.cdb).direction ≡ Out
  pub most : n ≤ remaining s
  pub all : s.task.budget ≡ 0 → n ≡ remaining s

abbrev pub Ends : Completion → Session → Type 0
Ends (HasAnswered st) s = (remaining s ≡ 0) × (st ≡ status_of s.unit s.task)
Ends (Refused st) s = Unit {0}

abbrev pub IsWorthMessage : TargetMessage → Session → Type 0
IsWorthMessage (CommandComplete v) s = Ends v s
IsWorthMessage n s = s.task.just_moved ≡ false

abbrev pub IsWorth : TaskPhase → Session → Type 0
IsWorth ToChoose s = Choosable s
IsWorth MessageOut s = Unit {0}
IsWorth (DataIn n) s = IsSending s n
IsWorth (DataOut n) s = IsReceiving s n
IsWorth (Status v) s = Ends v s
IsWorth (MessageIn n sent) s = IsWorthMessage n s

pub record IsSound (s : Session) : Type 0 where
  pub task : IsSoundTask s.unit s.task
  pub worth : IsWorth s.shows s

-- a task that isn't connected
pub record IsWaiting (u : UnitState) (k : Task) : Type 0 where
  pub task : IsSoundTask u k
  pub turn : k.just_moved ≡ false

-- the tasks of a unit by its LUN: one that is connected, and those that aren't
abbrev pub tasks_at : ConnectionState → (lun : ℕ) → LogicalUnit → List Task
tasks_at (TaskConnected c) lun u = if c.lun == lun then c.task ∷ u.tasks else u.tasks
tasks_at _ lun u = u.tasks

-- no two tasks of a unit have one tag
abbrev pub HaveDistinctTags : Target → Type 0
HaveDistinctTags t = (lun : ℕ) (u : LogicalUnit) → unit_at t.units lun ≡ Some u → AllPairs (λ (j : Task) (k : Task). j.tag ≢ k.tag) (tasks_at t.link lun u)

-- no unit has more tasks than its depth, the connected one among them
abbrev pub HaveFewTasks : Target → Type 0
HaveFewTasks t = (lun : ℕ) (u : LogicalUnit) → unit_at t.units lun ≡ Some u → length (tasks_at t.link lun u) ≤ u.rig.depth
