-- The messages of an initiator as the code tells them, and what they make of the link. No public contract rests on these.
use Rattle.std.specs.Prelude.{Bool, true, false, [], Option, Some, None}
use Rattle.target_law.specs.declared.nexus.Nexus.{Nexus}
use Rattle.target_law.specs.Target.{LogicalUnit, ConnectionState, BusFree, TakingCommand}
use Rattle.target_law.specs.Calls.{InitiatorMessage, Names, Resets, AbortsTag, Other}
use Rattle.scsi_target.specs.declared.task_exit.TaskExit.{TaskExit}
use Rattle.scsi_target.specs.declared.task_exit.TaskExit.TheVariants.{Disconnected, Aborted}
use Rattle.scsi_target.specs.declared.initiator_message.InitiatorMessage.{InitiatorMessage as ReadMessage}
use Rattle.scsi_target.specs.declared.initiator_message.InitiatorMessage.TheVariants as read

abbrev pub read_of : InitiatorMessage → ReadMessage
read_of (Names n) = read.Names n
read_of Resets = read.Resets
read_of AbortsTag = read.AbortsTag
read_of Other = read.Other

-- how a connected task leaves the bus after a message that isn't a reset: ABORT TAG after a reselection drops it
abbrev pub exit_for : ReadMessage → (reselected : Bool) → TaskExit
exit_for read.AbortsTag true = Aborted
exit_for read.AbortsTag false = Disconnected
exit_for (read.Names n) reselected = Disconnected
exit_for read.Resets reselected = Disconnected
exit_for read.Other reselected = Disconnected

-- a nexus of a unit that is there leads to COMMAND
abbrev pub link_named : Option LogicalUnit → Nexus → ConnectionState
link_named None n = BusFree
link_named (Some u) n = TakingCommand n []
