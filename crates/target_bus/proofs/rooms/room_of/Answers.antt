use Rattle.target_bus.proofs.LogRooms.{there-of, room-some, room-none}
use Rattle.target_bus.proofs.rooms.room_of.Goals as goal

pub room-requires : goal.room-requires
room-requires c = there-of _ _ (λ u. Unit {0}) c.in-Some.ensures (λ u e. tt)

pub returns-in-Some : goal.returns-in-Some
returns-in-Some c = room-some c.args.device.now c.args.lun c.room.result c.room.ensures.room c.room.ensures.fits

pub returns-in-None : goal.returns-in-None
returns-in-None c = room-none c.args.device.now c.args.lun c.in-None.ensures
