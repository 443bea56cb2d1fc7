-- What the rig says of the units of a target. Source: own.
use Rattle.std.specs.Prelude.{List, map, Option, Some, None}
use Rattle.rig_types.specs.declared.rig.Unit.{Unit as RigUnit}
use Rattle.target_law.specs.Target.{LogicalUnit}

abbrev pub rig_of : Option LogicalUnit → Option RigUnit
rig_of None = None
rig_of (Some u) = Some u.rig

abbrev pub rigs : List (Option LogicalUnit) → List (Option RigUnit)
rigs units = map rig_of units
