use Rattle.word_owners.proofs.Sweeps.{sweep_holds}
use Rattle.word_owners.proofs.laws.sweeps_hold.Goals as goal

pub returns : goal.returns
returns c = sweep_holds
