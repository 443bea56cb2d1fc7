-- A target with the room of each of its units' logs: what holds the target's state adds the entries of a call only where every log has room
-- for them. The spare of a log is its room less its entries. Source: own.
use Rattle.std.specs.Prelude.{ℕ, ◌+◌, max, nat_le, ◌&&◌, if◌then◌else◌, Bool, true, List, [], ◌∷◌, length, replicate, slice_index_or, slice_set, Option, Some, None}
use Rattle.rig_types.specs.declared.rig.Unit.{Unit as RigUnit}
use Rattle.target_law.specs.Target.{LogicalUnit, Target, target_opened, unit_at}

-- the target, and by LUN how many entries each log has room for
pub record DeviceState : Type 0 where
  pub target : Target
  pub rooms : List ℕ

-- the target at its opening; no log has room
abbrev pub device_opened : List RigUnit → DeviceState
device_opened units = record { target = target_opened units; rooms = replicate 8 0 }

-- the room of a unit's log, 0 where there is none
abbrev pub room_at : DeviceState → ℕ → ℕ
room_at d lun = slice_index_or d.rooms lun 0

-- each log lies within its room, and a room that is missing is 0
abbrev pub lies_within : Option LogicalUnit → ℕ → Bool
lies_within None room = true
lies_within (Some u) room = nat_le (length u.log) room

unfoldable pub lie_within : List (Option LogicalUnit) → List ℕ → Bool
lie_within [] rooms = true
lie_within (u ∷ us) [] = lies_within u 0 && lie_within us []
lie_within (u ∷ us) (room ∷ rooms) = lies_within u room && lie_within us rooms

-- the device after a call that would make this of its target: where a log has no room for its entries, the device is as before
unfoldable pub where_room : DeviceState → Target → DeviceState
where_room d t = if lie_within t.units d.rooms then record { target = t; rooms = d.rooms } else d

-- The device once room was made in a unit's log for n more entries than it has: no more room than that, and no less than before.
abbrev pub reserved_for : DeviceState → (lun n : ℕ) → Option LogicalUnit → DeviceState
reserved_for d lun n None = d
reserved_for d lun n (Some u) = record { target = d.target; rooms = slice_set d.rooms lun (max (room_at d lun) (length u.log + n)) }

unfoldable pub device_reserved : DeviceState → (lun n : ℕ) → DeviceState
device_reserved d lun n = reserved_for d lun n (unit_at d.target.units lun)

-- the device once the room of a log was lowered to so many entries
abbrev pub device_lowered : DeviceState → (lun room : ℕ) → DeviceState
device_lowered d lun room = record { target = d.target; rooms = slice_set d.rooms lun room }
