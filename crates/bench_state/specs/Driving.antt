-- What the bus asks of the driver: the live ticket of a nexus of a target, among the units of the rig (own).
use Rattle.std.specs.Prelude.{ℕ, List, position, Option}
use Rattle.rig_types.specs.declared.rig.Unit.{Unit as RigUnit}
use Rattle.target_law.specs.declared.nexus.Nexus.{Nexus}
use Rattle.desk_law.specs.Desk.{DeskState}
use Rattle.world_law.specs.World.{live_by, is_place}

abbrev pub live_among : List RigUnit → DeskState → ℕ → Nexus → Option ℕ
live_among units d target n = live_by d n.tag (position (is_place target n.lun) units)
