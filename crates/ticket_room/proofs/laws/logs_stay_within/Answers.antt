use Rattle.ticket_room.proofs.Moves.{logs-stay-within}
use Rattle.ticket_room.proofs.laws.logs_stay_within.Goals as goal

pub returns : goal.returns
returns c = logs-stay-within
