-- How a connected task leaves the bus, and what that makes of its unit and of the target. No public contract rests on these.
use Rattle.std.specs.Prelude.{◌≡◌, ℕ, nat_le, if◌then◌else◌, false, length, Option, Some, None}
use Rattle.target_law.specs.declared.task_phase.TargetMessage.{TargetMessage}
use Rattle.target_law.specs.declared.task_phase.TargetMessage.TheVariants.{CommandComplete, Disconnect}
use Rattle.target_law.specs.declared.task_phase.TaskPhase.{TaskPhase}
use Rattle.target_law.specs.declared.task_phase.TaskPhase.TheVariants.{MessageIn}
use Rattle.target_law.specs.Bytes.{Connection}
use Rattle.target_law.specs.Target.{LogicalUnit, ConnectionState, BusFree, Target, at_lun, with_unit, session, unit_after, unit_left, drops}
use Rattle.target_session.specs.Sessions.{closed_on}
use Rattle.unit_tasks.specs.Units.{unit_of}
use Rattle.unit_tasks.specs.declared.queued.QueuedUnit.{QueuedUnit}
use Rattle.scsi_target.specs.Views.{link_of, IsSlot, IsConnected}
use Rattle.scsi_target.specs.declared.connection_state.ConnectionState.{ConnectionState as HeldState}
use Rattle.scsi_target.specs.declared.connection_state.ConnectionState.TheVariants as held
use Rattle.scsi_target.specs.declared.task_exit.TaskExit.{TaskExit}
use Rattle.scsi_target.specs.declared.task_exit.TaskExit.TheVariants.{Disconnected, Aborted, Completed}

abbrev pub unit_by : TaskExit → LogicalUnit → Connection → LogicalUnit
unit_by Disconnected u c = unit_left u c.task
unit_by Aborted u c = drops u c.task
unit_by Completed u c = unit_after u (closed_on c.shows (session u c))

abbrev pub parts_by : TaskExit → Target → Connection → LogicalUnit → Target
parts_by how t c u = record { units = with_unit t.units c.lun (unit_by how u c); link = BusFree }

abbrev pub target_by : TaskExit → Target → Connection → Target
target_by how t c = at_lun t c.lun (parts_by how t c)

-- COMMAND COMPLETE is shown
abbrev pub IsLastMessage : TargetMessage → Type 0
IsLastMessage (CommandComplete v) = Unit {0}
IsLastMessage _ = ⊥

abbrev pub IsLast : TaskPhase → Type 0
IsLast (MessageIn n sent) = IsLastMessage n
IsLast _ = ⊥

-- a task ends only after that
abbrev pub May : TaskExit → TaskPhase → Type 0
May Completed s = IsLast s
May _ s = Unit {0}

-- what is connected is a task of this unit, or nothing
abbrev pub IsOnlyHere : ℕ → QueuedUnit → HeldState → Type 0
IsOnlyHere lun q held.BusFree = Unit {0}
IsOnlyHere lun q (held.Selected heard) = ⊥
IsOnlyHere lun q (held.TakingCommand n block) = ⊥
IsOnlyHere lun q (held.TaskConnected c) = (c.lun ≡ lun) × IsConnected false c q
IsOnlyHere lun q (held.RogueConnected s n) = ⊥

-- where the log of a unit has room for it, this unit and this link are what a call makes of the unit and of the link; else both stay
pub record IsMade (lun : ℕ) (old new : QueuedUnit) (from to : HeldState) (u : LogicalUnit) (l : ConnectionState) : Type 0 where
  pub unit : unit_of new ≡ (if nat_le (length u.log) old.core.log.room then u else unit_of old)
  pub link : link_of to ≡ (if nat_le (length u.log) old.core.log.room then l else link_of from)
  pub room : new.core.log.room ≡ old.core.log.room
  pub slot : IsSlot false to lun new
  pub only : IsOnlyHere lun new to

-- how the task leaves the bus once what it shows was acknowledged, if it does
abbrev pub exit_of_message : TargetMessage → Option TaskExit
exit_of_message (CommandComplete v) = Some Completed
exit_of_message Disconnect = Some Disconnected
exit_of_message _ = None

abbrev pub exit_of : TaskPhase → Option TaskExit
exit_of (MessageIn n sent) = exit_of_message n
exit_of _ = None
