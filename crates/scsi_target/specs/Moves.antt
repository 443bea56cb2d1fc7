-- What a move makes of a unit and of its connected task, where the log has room for the entries. No public contract rests on these. Source: own.
use Rattle.std.specs.Prelude.{nat_le, Bool, true, false, length}
use Rattle.unit_core.specs.declared.Core.{Core}
use Rattle.target_law.specs.Session.{Session}
use Rattle.target_law.specs.Bytes.{Connection}
use Rattle.target_law.specs.Target.{connection_after}
use Rattle.target_session.specs.Sessions.{core_after}
use Rattle.unit_tasks.specs.declared.queued.QueuedUnit.{QueuedUnit}

-- the log has room for the entries of the session
abbrev pub has_room : QueuedUnit → Session → Bool
has_room q s = nat_le (length s.log) q.core.log.room

abbrev pub core_moved : Bool → Core → Session → Core
core_moved true core s = core_after core s
core_moved false core s = core

abbrev pub unit_moved : Bool → QueuedUnit → Session → QueuedUnit
unit_moved b q s = record { rig = q.rig; core = core_moved b q.core s; tasks = q.tasks }

abbrev pub connection_moved : Bool → Connection → Session → Connection
connection_moved true c s = connection_after c s
connection_moved false c s = c
