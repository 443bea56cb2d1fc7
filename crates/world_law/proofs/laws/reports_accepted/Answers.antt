use Rattle.world_law.proofs.TicketNumbers.{numbers_tickets, reports_all, freed_stays_so}
use Rattle.world_law.proofs.laws.reports_accepted.Goals as goal

pub returns : goal.returns
returns c = record { accepted = numbers_tickets; all = reports_all; freed = freed_stays_so }
