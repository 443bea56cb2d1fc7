-- The bytes of a connected task's phases, and what a message does when ACK is released after it. Sources: SCSI-2 6.1.5 to 6.1.9 phases, 6.5
-- messages; own is that a phase's end is its last byte.
use Rattle.std.specs.Prelude.{ℕ, zero, suc, ◌+◌, max, Bool, true, false, List, [], ◌∷◌, ◌++◌, length, take, drop, slice_get, Option, Some, None, unwrap_or}
use Rattle.scsi_words.specs.declared.phases.kinds.Phase.{Phase as BusPhase}
use Rattle.scsi_words.specs.declared.phases.kinds.Phase.TheVariants as phase
use Rattle.scsi_words.specs.declared.messages.kinds.Message.{Message}
use Rattle.scsi_words.specs.declared.messages.kinds.Message.TheVariants as message
use Rattle.scsi_words.specs.declared.statuses.kinds.Status.{Status}
use Rattle.scsi_words.specs.Messages.{message_code}
use Rattle.scsi_words.specs.Statuses.{status_code}
use Rattle.plain_lun.specs.Performing.{Answered}
use Rattle.target_law.specs.declared.task_phase.ReselectByte.{ReselectByte}
use Rattle.target_law.specs.declared.task_phase.ReselectByte.TheVariants as part
use Rattle.target_law.specs.declared.task_phase.TargetMessage.{TargetMessage}
use Rattle.target_law.specs.declared.task_phase.TargetMessage.TheVariants.{Reselection, CommandComplete, SaveThenDisconnect, SaveDataPointer, RestorePointers, Disconnect}
use Rattle.target_law.specs.declared.task_phase.TaskPhase.{TaskPhase}
use Rattle.target_law.specs.declared.task_phase.TaskPhase.TheVariants as task_phase
use Rattle.target_law.specs.declared.task_phase.TaskPhase.TheVariants.{ToChoose, MessageOut, DataIn, DataOut, MessageIn}
use Rattle.target_law.specs.declared.task_phase.Completion.{Completion}
use Rattle.target_law.specs.declared.task_phase.Completion.TheVariants.{Answered as HasAnswered, Refused}
use Rattle.target_law.specs.Session.{Task, says}

-- a connected task: the LUN of its unit, whether a reselection began the connection, the bytes of a message that it hears, and what it shows
pub record Connection : Type 0 where
  pub lun : ℕ
  pub reselected : Bool
  pub heard : List ℕ
  pub task : Task
  pub shows : TaskPhase

-- the phase that is shown, if one is
abbrev pub phase_of : TaskPhase → Option BusPhase
phase_of ToChoose = None
phase_of MessageOut = Some phase.MsgOut
phase_of (DataIn n) = Some phase.DataIn
phase_of (DataOut n) = Some phase.DataOut
phase_of (task_phase.Status v) = Some phase.Status
phase_of (MessageIn n sent) = Some phase.MsgIn

-- the byte of each part of a reselection's name
abbrev pub name_byte : ReselectByte → (lun tag : ℕ) → ℕ
name_byte part.Identify lun tag = message_code (message.Identify false lun)
name_byte part.SimpleQueueTag lun tag = message_code message.SimpleTag
name_byte part.Tag lun tag = tag

abbrev pub message_in_byte : TargetMessage → (lun tag : ℕ) → ℕ
message_in_byte (Reselection p) lun tag = name_byte p lun tag
message_in_byte (CommandComplete v) lun tag = message_code message.Complete
message_in_byte SaveThenDisconnect lun tag = message_code message.Save
message_in_byte SaveDataPointer lun tag = message_code message.Save
message_in_byte RestorePointers lun tag = message_code message.Restore
message_in_byte Disconnect lun tag = message_code message.Leave

abbrev pub status_told : Completion → Status
status_told (HasAnswered st) = st
status_told (Refused st) = st

-- the byte at the position of what is kept
abbrev pub data_at : Option Answered → ℕ → Option ℕ
data_at None position = None
data_at (Some kept) position = slice_get kept.bytes position

-- the byte that a connected task has for the initiator, if it has one
abbrev pub byte_by : TaskPhase → Task → (lun : ℕ) → Option ℕ
byte_by ToChoose k lun = None
byte_by MessageOut k lun = None
byte_by (DataIn n) k lun = data_at k.kept k.position
byte_by (DataOut n) k lun = None
byte_by (task_phase.Status v) k lun = Some (status_code (status_told v))
byte_by (MessageIn n false) k lun = Some (message_in_byte n lun k.tag)
byte_by (MessageIn n true) k lun = None

-- after one byte of a data phase of n bytes it has one less, and its end is a choice
abbrev pub one_less : ℕ → (ℕ → TaskPhase) → TaskPhase
one_less zero shows = ToChoose
one_less (suc zero) shows = ToChoose
one_less (suc (suc n)) shows = shows (suc n)

-- the position goes on by one byte
abbrev pub advanced : Task → List ℕ → Task
advanced k received = record k { position = k.position + 1; high = max k.high (k.position + 1); received = received }

-- the connection after a byte that it had for the initiator
abbrev pub sent_by : TaskPhase → Connection → Connection
sent_by ToChoose c = c
sent_by MessageOut c = c
sent_by (DataIn n) c = record c { task = advanced c.task c.task.received; shows = one_less n DataIn }
sent_by (DataOut n) c = c
sent_by (task_phase.Status v) c = record c { shows = says (CommandComplete v) }
sent_by (MessageIn n sent) c = record c { shows = MessageIn n true }

-- this byte at a place of what was received
abbrev pub put : List ℕ → ℕ → ℕ → List ℕ
put held at b = take at held ++ b ∷ drop (at + 1) held

-- the first four bytes of a message: none that acts is as long
abbrev pub hears : List ℕ → ℕ → List ℕ
hears heard b = take 4 (heard ++ b ∷ [])

-- whether it takes a byte
abbrev pub takes_by : TaskPhase → Bool
takes_by MessageOut = true
takes_by (DataOut n) = true
takes_by _ = false

-- the connection after a byte that it took
abbrev pub took_by : TaskPhase → Connection → ℕ → Connection
took_by MessageOut c b = record c { heard = hears c.heard b }
took_by (DataOut n) c b = record c { task = advanced c.task (put c.task.received c.task.position b); shows = one_less n DataOut }
took_by _ c b = c

-- the position is saved, or goes back to the saved one
abbrev pub saves : Connection → TaskPhase → Connection
saves c shows = record c { task = record c.task { saved = c.task.position }; shows = shows }

abbrev pub restores : Connection → TaskPhase → Connection
restores c shows = record c { task = record c.task { position = c.task.saved }; shows = shows }

-- A message is acknowledged after which the task stays connected. After the name of a reselection, SAVE DATA POINTER alone and RESTORE
-- POINTERS it is to choose.
abbrev pub heard_by : TargetMessage → Connection → Connection
heard_by (Reselection part.Identify) c = record c { shows = says (Reselection part.SimpleQueueTag) }
heard_by (Reselection part.SimpleQueueTag) c = record c { shows = says (Reselection part.Tag) }
heard_by (Reselection part.Tag) c = record c { shows = ToChoose }
heard_by SaveThenDisconnect c = saves c (says Disconnect)
heard_by SaveDataPointer c = saves c ToChoose
heard_by RestorePointers c = restores c ToChoose
heard_by (CommandComplete v) c = c
heard_by Disconnect c = c

-- a task that leaves the bus goes back to its saved position
abbrev pub away : Task → Task
away k = record k { position = k.saved; just_moved = false }
