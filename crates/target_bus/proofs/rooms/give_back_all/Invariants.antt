use Rattle.std.proofs.Common.{◌≡◌, ◌-◌}
use Rattle.target_law.specs.Devices.{DeviceState}
use Rattle.bus_law.specs.Rooms.{with_room_of, with_room}
use Rattle.target_bus.specs.Rooms.{AreRoomsOf}
use Rattle.target_bus.proofs.LogRooms.{below}
use Rattle.target_bus.proofs.rooms.give_back_all.Given as goal

abbrev pub invariant-loop-made : goal.invariant-loop-made
invariant-loop-made l = (old : DeviceState) → AreRoomsOf old l.rooms → l.fn.device ≡ with_room old → l.device ≡ below with_room_of (8 - l.made) old
