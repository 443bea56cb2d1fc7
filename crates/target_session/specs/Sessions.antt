-- A connected task with its unit, as one session, and what a session leaves of both. Source: own.
use Rattle.std.specs.Prelude.{ℕ, Bool, true, false, Option, Some, None}
use Rattle.unit_core.specs.declared.Core.{Core}
use Rattle.unit_law.specs.declared.entry.LogEntry.{LogEntry}
use Rattle.unit_law.specs.declared.entry.LogEntry.TheVariants.{End, Sense}
use Rattle.target_law.specs.declared.task_phase.TargetMessage.{TargetMessage}
use Rattle.target_law.specs.declared.task_phase.TargetMessage.TheVariants.{CommandComplete}
use Rattle.target_law.specs.declared.task_phase.TaskPhase.{TaskPhase}
use Rattle.target_law.specs.declared.task_phase.TaskPhase.TheVariants.{MessageIn}
use Rattle.target_law.specs.Session.{Session, closed}
use Rattle.target_law.specs.Bytes.{Connection, sent_by, heard_by}

abbrev pub session_of : Core → Connection → Session
session_of core c = record { unit = core.lun; log = core.log.entries; task = c.task; shows = c.shows }

-- the unit and its log after a session; the room of the log stays
abbrev pub core_after : Core → Session → Core
core_after core s = record { lun = s.unit; log = record { entries = s.log; room = core.log.room } }

-- the connection after the initiator asked for a byte, which it had or hadn't
abbrev pub sent_where : Option ℕ → Connection → Connection
sent_where (Some b) c = sent_by c.shows c
sent_where None c = c

-- ACK is released after the message that is shown
abbrev pub heard_on : TaskPhase → Connection → Connection
heard_on (MessageIn n sent) c = heard_by n c
heard_on _ c = c

-- the entry of an answered task
abbrev pub end_entry : Bool → ℕ → LogEntry
end_entry true ticket = Sense ticket
end_entry false ticket = End ticket

-- ACK is released after COMMAND COMPLETE
abbrev pub closed_message : TargetMessage → Session → Session
closed_message (CommandComplete v) s = closed v s
closed_message _ s = s

abbrev pub closed_on : TaskPhase → Session → Session
closed_on (MessageIn n sent) s = closed_message n s
closed_on _ s = s
