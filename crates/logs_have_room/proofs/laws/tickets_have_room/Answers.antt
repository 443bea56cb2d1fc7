use Rattle.logs_have_room.proofs.Room.{tickets-have-room}
use Rattle.logs_have_room.proofs.laws.tickets_have_room.Goals as goal

pub returns : goal.returns
returns c = tickets-have-room
