use Rattle.chip_needs.proofs.WaitingTickets.{waiting-tickets-stay}
use Rattle.chip_needs.proofs.laws.waiting_tickets_stay.Goals as goal

pub returns : goal.returns
returns c = waiting-tickets-stay
