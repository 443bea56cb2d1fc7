use Rattle.ticket_link.proofs.Tasks.{connected-is, waiting-are}
use Rattle.ticket_link.proofs.laws.tasks_are_their_tickets.Goals as goal

pub returns : goal.returns
returns c = record { connected = connected-is; waiting = waiting-are }
