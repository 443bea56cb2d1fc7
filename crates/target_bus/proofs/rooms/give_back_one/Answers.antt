use Rattle.target_bus.proofs.LogRooms.{can-lower, given-back, none-made}
use Rattle.target_bus.proofs.rooms.give_back_one.Goals as goal

pub lower_room-requires : goal.lower_room-requires
lower_room-requires c = can-lower c.requires.0 c.args.device.now c.args.lun c.args.room _ c.requires.1 c.in-Some.ensures

pub returns-in-Some : goal.returns-in-Some
returns-in-Some c = λ old made. given-back old c.args.device.now c.lower_room.new.self c.args.lun c.args.room _ made c.in-Some.ensures c.lower_room.ensures

pub returns-in-None : goal.returns-in-None
returns-in-None c = λ old made. none-made old c.args.device.now c.args.lun c.args.room made c.in-None.ensures
