use Rattle.bus_events.proofs.CallRooms.{calls-have-room}
use Rattle.bus_events.proofs.laws.calls_have_room.Goals as goal

pub returns : goal.returns
returns c = calls-have-room
