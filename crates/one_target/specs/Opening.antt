-- The opening of the command `one`: a free bus with target 0, whose one unit has LUN 0, 64 blocks that count, one place for a task, and
-- neither leaves the bus nor refuses. Source: own.
use Rattle.std.specs.Prelude.{◌≡◌, ◌≤◌, false, [], ◌∷◌, slice_index}
use Rattle.rig_types.specs.declared.rig.Pattern.TheVariants.{Count}
use Rattle.rig_types.specs.declared.rig.Unit.{Unit as RigUnit}
use Rattle.plain_lun.specs.Unit.{UnitState, opened}
use Rattle.target_law.specs.Target.{target_opened}
use Rattle.one_target.specs.Bus.{BusState}

unfoldable pub one_unit : RigUnit
one_unit = record { target = 0; lun = 0; blocks = 64; pattern = Count; depth = 1; disconnects = 0; refusals = 0; absent = false; rogue = false }

-- the unit by itself
abbrev pub one_plain : UnitState
one_plain = opened one_unit.blocks one_unit.pattern

-- no line is asserted, and there is room for more entries than one command logs
pub record IsOpened (b : BusState) : Type 0 where
  pub target_is : b.target ≡ target_opened (one_unit ∷ [])
  pub room : 8 ≤ slice_index b.rooms 0
  pub atn : b.atn ≡ false
  pub ack : b.ack ≡ false
