use Rattle.bus_events.proofs.BusResets.{bus-resets-move}
use Rattle.bus_events.proofs.MadeRooms.{room-is-made}
use Rattle.bus_events.proofs.laws.bus_resets_move.Goals as goal

pub returns : goal.returns
returns c = record { resets = bus-resets-move; room = room-is-made }
