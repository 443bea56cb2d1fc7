use Rattle.std.proofs.Common.{◌/◌, ◌%◌, sym, subst, arith}
use Rattle.target_law.specs.Devices.{DeviceState}
use Rattle.target_bus.specs.Rooms.{RoomMade}
use Rattle.target_bus.proofs.BusRooms.{undone, on-err}
use Rattle.target_bus.proofs.rooms.+reserve_from.Goals as goal

pub returns-then-is_err-clause-err : goal.returns-then-is_err-clause-err
returns-then-is_err-clause-err t c =
    let ok = c.args.devices.now.ok in
    let seven = c.requires.seven in
    let d = c.index_mut.result.now in
    on-err c.reserve_from-rest.result (λ same.
    undone c.args.devices.now.items c.reserve_from-rest.new.devices.items (c.args.place / 8) d c.reserve_one.new.device c.index_mut-then-is_err.result.now c.give_back_one.new.device (omega arith)
    c.index_mut.ensures.value same c.index_mut-then-is_err.ensures.value
    (λ is. c.give_back_one.ensures d (subst (λ (y : DeviceState). RoomMade d (c.args.place % 8) c.in_ok-room.room y) (sym is) c.in_ok-room.ensures)))
    c.reserve_from-rest.ensures.err
