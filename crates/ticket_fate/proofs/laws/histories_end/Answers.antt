use Rattle.ticket_fate.proofs.Reached.{histories-end}
use Rattle.ticket_fate.proofs.laws.histories_end.Goals as goal

pub returns : goal.returns
returns c = histories-end
