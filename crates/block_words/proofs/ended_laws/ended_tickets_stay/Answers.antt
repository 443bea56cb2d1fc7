use Rattle.block_words.proofs.EndedTickets.{ended-tickets-stay}
use Rattle.block_words.proofs.ended_laws.ended_tickets_stay.Goals as goal

pub returns : goal.returns
returns c = ended-tickets-stay
