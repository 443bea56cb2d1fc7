-- The data pointers of a task: its position, and its saved position. Source: SCSI-2 6.6.4 DISCONNECT, 6.6.13 RESTORE POINTERS, 6.6.15 SAVE DATA
-- POINTER.
use Rattle.std.specs.Prelude.{◌≡◌, ℕ, ◌+◌, Bool, true, false}
use Rattle.target_law.specs.declared.moves.Move.{Move}
use Rattle.target_law.specs.declared.task_phase.TargetMessage.{TargetMessage}
use Rattle.target_law.specs.declared.task_phase.TargetMessage.TheVariants.{SaveThenDisconnect, SaveDataPointer, RestorePointers}
use Rattle.target_law.specs.declared.task_phase.TaskPhase.{TaskPhase}
use Rattle.target_law.specs.declared.task_phase.TaskPhase.TheVariants.{DataIn, DataOut}
use Rattle.target_law.specs.Session.{Task, Session, acted}
use Rattle.target_law.specs.Bytes.{Connection, sent_by, took_by, heard_by, away}

-- both pointers stay
pub record PointersStay (old new : Task) : Type 0 where
  pub position : new.position ≡ old.position
  pub saved : new.saved ≡ old.saved

-- the position goes on by one byte, and the saved one stays
pub record GoesOn (old new : Task) : Type 0 where
  pub position : new.position ≡ old.position + 1
  pub saved : new.saved ≡ old.saved

-- a message that saves or restores the position
abbrev pub moves_pointers : TargetMessage → Bool
moves_pointers SaveThenDisconnect = true
moves_pointers SaveDataPointer = true
moves_pointers RestorePointers = true
moves_pointers n = false

-- a phase that moves data
abbrev pub moves_data : TaskPhase → Bool
moves_data (DataIn n) = true
moves_data (DataOut n) = true
moves_data sh = false

-- A choice moves no pointer; a byte of a data phase moves the position on by one, and any other byte moves none. SAVE DATA POINTER, alone or
-- before DISCONNECT, saves the position, RESTORE POINTERS goes back to the saved one, any other message moves none. A task that leaves the bus
-- is back at its saved position.
pub record PointersFollow : Type 0 where
  pub chosen : (m : Move) (s : Session) → PointersStay s.task (acted m s).task
  pub sent_data : (n : ℕ) (c : Connection) → GoesOn c.task (sent_by (DataIn n) c).task
  pub taken_data : (n : ℕ) (c : Connection) (b : ℕ) → GoesOn c.task (took_by (DataOut n) c b).task
  pub sent : (sh : TaskPhase) (c : Connection) → moves_data sh ≡ false → PointersStay c.task (sent_by sh c).task
  pub taken : (sh : TaskPhase) (c : Connection) (b : ℕ) → moves_data sh ≡ false → PointersStay c.task (took_by sh c b).task
  pub saves : (c : Connection) → ((heard_by SaveDataPointer c).task.saved ≡ c.task.position) × ((heard_by SaveDataPointer c).task.position ≡ c.task.position)
  pub saves_first : (c : Connection) → ((heard_by SaveThenDisconnect c).task.saved ≡ c.task.position) × ((heard_by SaveThenDisconnect c).task.position ≡ c.task.position)
  pub restores : (c : Connection) → ((heard_by RestorePointers c).task.position ≡ c.task.saved) × ((heard_by RestorePointers c).task.saved ≡ c.task.saved)
  pub heard : (n : TargetMessage) (c : Connection) → moves_pointers n ≡ false → PointersStay c.task (heard_by n c).task
  pub left : (k : Task) → ((away k).position ≡ k.saved) × ((away k).saved ≡ k.saved)
