-- The room of logs: as many entries as steps of the chip may add before room is made again (own).
use Rattle.std.specs.Prelude.{ℕ, ◌+◌, ◌*◌, map, fold, Option, Some, None}
use Rattle.std.specs.List.{range_with_len}
use Rattle.rig_types.specs.declared.rig.Unit.{Unit as RigUnit}
use Rattle.target_law.specs.Target.{LogicalUnit, unit_at}
use Rattle.target_law.specs.Devices.{DeviceState, device_reserved}
use Rattle.bus_law.specs.Bus.{BusState, device_at, with_device}

-- all that the live tickets of a unit may log, which is for each its refusals and at most three more, and the Clears of one device reset and
-- one bus reset
abbrev pub reserve_of : RigUnit → ℕ
reserve_of u = u.depth * (u.refusals + 3) + 2

-- a device once room was made in the log of a LUN, and in those of all its units
abbrev pub with_room_for : DeviceState → (lun : ℕ) → Option LogicalUnit → DeviceState
with_room_for d lun None = d
with_room_for d lun (Some u) = device_reserved d lun (reserve_of u.rig)

abbrev pub with_room_of : DeviceState → (lun : ℕ) → DeviceState
with_room_of d lun = with_room_for d lun (unit_at d.target.units lun)

abbrev pub with_room : DeviceState → DeviceState
with_room d = fold with_room_of d (range_with_len 0 8)

-- in the logs of one target, and of all
abbrev pub with_room_at : BusState → (target : ℕ) → BusState
with_room_at b target = with_device b target (with_room (device_at b target))

abbrev pub with_all_room : BusState → BusState
with_all_room b = record b { devices = map with_room b.devices }
