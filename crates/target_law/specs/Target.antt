-- The state of a target: its units with their tasks and logs, and its link to the initiator. ATN, ACK and the live ticket of a tag are the
-- caller's to know. Sources: SCSI-2 6.2.2 reset condition, 6.6.3 BUS DEVICE RESET; own is what a reset does with tasks.
use Rattle.std.specs.Prelude.{◌≡◌, ℕ, nat_lt, if◌then◌else◌, Bool, true, false, List, [], ◌∷◌, ◌++◌, map, fold, replicate, slice_get, slice_set, Option, Some, None}
use Rattle.rig_types.specs.declared.rig.Unit.{Unit as RigUnit}
use Rattle.plain_lun.specs.Unit.{UnitState, opened}
use Rattle.plain_lun.specs.Losing.{dropped, cleared}
use Rattle.unit_law.specs.declared.entry.LogEntry.{LogEntry}
use Rattle.unit_law.specs.declared.entry.LogEntry.TheVariants.{Drop, Clear}
use Rattle.target_law.specs.declared.nexus.Nexus.{Nexus}
use Rattle.target_law.specs.declared.rogue_phase.RoguePhase.{RoguePhase}
use Rattle.target_law.specs.Session.{Task, Session}
use Rattle.target_law.specs.Bytes.{Connection, away}

-- a logical unit of a target: what the rig says of it, the unit by itself, its log, and its tasks that aren't connected, by rising tag
pub record LogicalUnit : Type 0 where
  pub rig : RigUnit
  pub plain : UnitState
  pub log : List LogEntry
  pub tasks : List Task

-- what stands between the initiator and a target: nothing; a selection, with the bytes of its message; a nexus, with the bytes of its
-- command descriptor block; a task; or units that break the rules, with the nexus that a reselection named
pub data ConnectionState : Type 0 where
  BusFree : ConnectionState
  Selected : List ℕ → ConnectionState
  TakingCommand : Nexus → List ℕ → ConnectionState
  TaskConnected : Connection → ConnectionState
  RogueConnected : RoguePhase → Option Nexus → ConnectionState

-- a target: its units by LUN, 0 to 7, and its link
pub record Target : Type 0 where
  pub units : List (Option LogicalUnit)
  pub link : ConnectionState

-- the unit with a LUN, if there is one
abbrev pub flat : Option (Option LogicalUnit) → Option LogicalUnit
flat (Some u) = u
flat None = None

unfoldable pub unit_at : List (Option LogicalUnit) → ℕ → Option LogicalUnit
unit_at units lun = flat (slice_get units lun)

unfoldable pub with_unit : List (Option LogicalUnit) → ℕ → LogicalUnit → List (Option LogicalUnit)
with_unit units lun u = slice_set units lun (Some u)

-- a unit at its opening, and the target of these units
abbrev pub unit_opened : RigUnit → LogicalUnit
unit_opened r = record { rig = r; plain = opened r.blocks r.pattern; log = []; tasks = [] }

abbrev pub adds_unit : List (Option LogicalUnit) → RigUnit → List (Option LogicalUnit)
adds_unit units r = with_unit units r.lun (unit_opened r)

unfoldable pub target_opened : List RigUnit → Target
target_opened rs = record { units = fold adds_unit (replicate 8 None) rs; link = BusFree }

-- the session of a connection, and the unit and the connection after it
abbrev pub session : LogicalUnit → Connection → Session
session u c = record { unit = u.plain; log = u.log; task = c.task; shows = c.shows }

abbrev pub unit_after : LogicalUnit → Session → LogicalUnit
unit_after u s = record u { plain = s.unit; log = s.log }

abbrev pub connection_after : Connection → Session → Connection
connection_after c s = record c { task = s.task; shows = s.shows }

-- what is done where the unit of a LUN is there
abbrev pub on_unit : Option LogicalUnit → (LogicalUnit → Target) → Target → Target
on_unit (Some u) f t = f u
on_unit None f t = t

abbrev pub at_lun : Target → ℕ → (LogicalUnit → Target) → Target
at_lun t lun f = on_unit (unit_at t.units lun) f t

-- the session goes on; or its task is gone, and the bus free
abbrev pub goes_on : Target → Connection → LogicalUnit → Session → Target
goes_on t c u s = record { units = with_unit t.units c.lun (unit_after u s); link = TaskConnected (connection_after c s) }

abbrev pub ends : Target → Connection → LogicalUnit → Session → Target
ends t c u s = record { units = with_unit t.units c.lun (unit_after u s); link = BusFree }

-- the link alone changes
abbrev pub linked : Target → ConnectionState → Target
linked t l = record { units = t.units; link = l }

-- a task goes among the others by its tag
unfoldable pub by_tag : Task → List Task → List Task
by_tag k [] = k ∷ []
by_tag k (x ∷ xs) = if nat_lt k.tag x.tag then k ∷ (x ∷ xs) else x ∷ by_tag k xs

-- the task leaves the bus, which is free then
abbrev pub unit_left : LogicalUnit → Task → LogicalUnit
unit_left u k = record u { tasks = by_tag (away k) u.tasks }

abbrev pub leaves : Target → Connection → LogicalUnit → Target
leaves t c u = record { units = with_unit t.units c.lun (unit_left u c.task); link = BusFree }

-- A dropped task logs Drop with the greatest position that it reached, and a write stores the whole blocks that it received; a sense task
-- is dropped without an entry.
abbrev pub drops_by : Bool → LogicalUnit → Task → LogicalUnit
drops_by true u k = u
drops_by false u k = record u { plain = dropped u.plain k.cdb k.received; log = u.log ++ Drop k.ticket k.high ∷ [] }

abbrev pub drops : LogicalUnit → Task → LogicalUnit
drops u k = drops_by k.senses u k

-- a reset of a unit drops its tasks by rising tag, and then clears it
abbrev pub clears : LogicalUnit → LogicalUnit
clears u = record { rig = u.rig; plain = cleared u.plain; log = u.log ++ Clear ∷ []; tasks = [] }

unfoldable pub unit_reset : LogicalUnit → LogicalUnit
unit_reset u = clears (fold drops u u.tasks)

abbrev pub slot_reset : Option LogicalUnit → Option LogicalUnit
slot_reset None = None
slot_reset (Some u) = Some (unit_reset u)

-- the connected task, if there is one, goes among the others
abbrev pub parted : ConnectionState → Target → Target
parted (TaskConnected c) t = at_lun t c.lun (leaves t c)
parted l t = t

-- a reset of the target, for any cause, frees the bus
unfoldable pub target_reset : Target → Target
target_reset t = record { units = map slot_reset (parted t.link t).units; link = BusFree }
