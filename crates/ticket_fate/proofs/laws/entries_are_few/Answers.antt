use Rattle.ticket_fate.proofs.FewEntries.{entries-are-few}
use Rattle.ticket_fate.proofs.laws.entries_are_few.Goals as goal

pub returns : goal.returns
returns c = entries-are-few
