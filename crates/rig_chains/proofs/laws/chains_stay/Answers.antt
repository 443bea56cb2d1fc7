use Rattle.rig_chains.proofs.LaidLaws.{keeps_chains}
use Rattle.rig_chains.proofs.laws.chains_stay.Goals as goal

pub returns : goal.returns
returns c = keeps_chains
