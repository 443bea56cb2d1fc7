use Rattle.word_owners.proofs.Aborts.{mark_holds}
use Rattle.word_owners.proofs.laws.aborts_hold.Goals as goal

pub returns : goal.returns
returns c = mark_holds
