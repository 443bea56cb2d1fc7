use Rattle.world_law.proofs.TicketsKept.{keeps_tickets, lines_match}
use Rattle.world_law.proofs.laws.tickets_keep.Goals as goal

pub returns : goal.returns
returns c = record { kept = keeps_tickets; lines = lines_match }
