use Rattle.logs_have_room.proofs.Room.{room-is-reserved}
use Rattle.logs_have_room.proofs.laws.room_is_reserved.Goals as goal

pub returns : goal.returns
returns c = room-is-reserved
