use Rattle.ticket_fate.proofs.Reached.{none-lost-after-end}
use Rattle.ticket_fate.proofs.laws.none_lost_after_end.Goals as goal

pub returns : goal.returns
returns c = none-lost-after-end
