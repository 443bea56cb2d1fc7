use Rattle.word_owners.proofs.Frees.{free_holds}
use Rattle.word_owners.proofs.laws.frees_hold.Goals as goal

pub returns : goal.returns
returns c = free_holds
