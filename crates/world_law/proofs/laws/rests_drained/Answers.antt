use Rattle.world_law.proofs.Drained.{rests}
use Rattle.world_law.proofs.laws.rests_drained.Goals as goal

pub returns : goal.returns
returns c = rests
