-- The room of logs as the code makes it and gives it back, log by log.
use Rattle.std.specs.Prelude.{◌≡◌, ℕ, ◌/◌, ◌%◌, ◌<◌, ◌≤◌, List, length, fold, slice_index_or, slice_set, Some}
use Rattle.std.specs.List.{range_with_len}
use Rattle.target_law.specs.Target.{LogicalUnit, unit_at}
use Rattle.target_law.specs.Devices.{DeviceState, room_at}
use Rattle.bus_law.specs.Bus.{BusState, no_device, device_at}
use Rattle.bus_law.specs.Rooms.{with_room_of, with_room_at}

-- the devices once room was made in one log, and in the next so many; the logs of a bus are numbered by SCSI ID and LUN, from 0 to 55
abbrev pub with_room_in : List DeviceState → ℕ → List DeviceState
with_room_in ds place = slice_set ds (place / 8) (with_room_of (slice_index_or ds (place / 8) no_device) (place % 8))

abbrev pub with_rooms_from : List DeviceState → (place count : ℕ) → List DeviceState
with_rooms_from ds place count = fold with_room_in ds (range_with_len place count)

-- this is the room of a log, in which its entries fit
pub record IsRoomOf (d : DeviceState) (lun n : ℕ) : Type 0 where
  pub room : (u : LogicalUnit) → unit_at d.target.units lun ≡ Some u → n ≡ room_at d lun
  pub fits : (u : LogicalUnit) → unit_at d.target.units lun ≡ Some u → length u.log ≤ n

-- room was made in one log, which had this room before
pub record RoomMade (old : DeviceState) (lun room : ℕ) (new : DeviceState) : Type 0 where
  pub made : new ≡ with_room_of old lun
  pub before : IsRoomOf old lun room

-- these are the rooms of a device's logs by LUN
abbrev pub AreRoomsOf : DeviceState → List ℕ → Type 0
AreRoomsOf d rooms = (lun : ℕ) → lun < 8 → IsRoomOf d lun (slice_index_or rooms lun 0)

-- room was made in the logs of a target, which had these rooms before
pub record WasReserved (old : BusState) (target : ℕ) (rooms : List ℕ) (new : BusState) : Type 0 where
  pub before : AreRoomsOf (device_at old target) rooms
  pub made : new ≡ with_room_at old target
