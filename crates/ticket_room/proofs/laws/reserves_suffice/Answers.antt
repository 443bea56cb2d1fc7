use Rattle.ticket_room.proofs.Reserves.{reserves-suffice}
use Rattle.ticket_room.proofs.laws.reserves_suffice.Goals as goal

pub returns : goal.returns
returns c = reserves-suffice
