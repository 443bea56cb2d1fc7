use Rattle.word_owners.proofs.Restarts.{restart_holds}
use Rattle.word_owners.proofs.laws.restarts_hold.Goals as goal

pub returns : goal.returns
returns c = restart_holds
