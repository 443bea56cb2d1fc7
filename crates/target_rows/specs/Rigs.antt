-- A target with one unit. What the rig says of it no call changes.
use Rattle.std.specs.Prelude.{◌≡◌, false, List, [], ◌∷◌, Option, Some, None}
use Rattle.rig_types.specs.declared.rig.Unit.{Unit as RigUnit}
use Rattle.rig_types.specs.Ranges.{IsUnit}
use Rattle.target_law.specs.Target.{LogicalUnit}
use Rattle.target_law.specs.Rigs.{rigs}

-- one unit, of LUN 3
abbrev pub alone : RigUnit → List (Option RigUnit)
alone r = None ∷ None ∷ None ∷ Some r ∷ None ∷ None ∷ None ∷ None ∷ []

-- a unit of LUN 3 that is there
pub record IsPresent (r : RigUnit) : Type 0 where
  pub unit : IsUnit 1 r
  pub lun : r.lun ≡ 3
  pub present : r.absent ≡ false

-- a target has this unit alone
pub record IsHeld (units : List (Option LogicalUnit)) (r : RigUnit) : Type 0 where
  pub rigs_are : rigs units ≡ alone r
  pub unit : IsPresent r
