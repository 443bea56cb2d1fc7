-- What the end of a task makes of its unit. Source: own.
use Rattle.std.specs.Prelude.{Bool, true, false, [], Option, Some, None}
use Rattle.cdb_codec.specs.declared.commands.Cdb.TheVariants.{RequestSense}
use Rattle.plain_lun.specs.Unit.{UnitState}
use Rattle.plain_lun.specs.Performing.{Answered, Performed, perform}
use Rattle.target_law.specs.Session.{Task}

-- a command that was performed at its first data phase changes nothing more
abbrev pub performed_once : Option Answered → UnitState → Performed → UnitState
performed_once (Some kept) u p = u
performed_once None u p = p.unit

-- the unit gives up the sense that a sense task has sent
abbrev pub unit_ended_by : Bool → UnitState → Task → UnitState
unit_ended_by true u k = (perform u (RequestSense 18) []).unit
unit_ended_by false u k = performed_once k.kept u (perform u k.cdb k.received)

abbrev pub unit_ended : UnitState → Task → UnitState
unit_ended u k = unit_ended_by k.senses u k
