use Rattle.word_owners.proofs.Additions.{add_holds}
use Rattle.word_owners.proofs.laws.tickets_are_added.Goals as goal

pub returns : goal.returns
returns c = add_holds
