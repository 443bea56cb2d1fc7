use Rattle.ticket_link.proofs.Others.{one-target-moves}
use Rattle.ticket_link.proofs.laws.one_target_moves.Goals as goal

pub returns : goal.returns
returns c = one-target-moves
