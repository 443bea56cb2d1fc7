use Rattle.world_law.proofs.Opens.{opens}
use Rattle.world_law.proofs.laws.opens_memory.Goals as goal

pub returns : goal.returns
returns c = opens
