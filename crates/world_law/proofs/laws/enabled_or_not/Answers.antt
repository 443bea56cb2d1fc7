use Rattle.world_law.proofs.Decisions.{enabled_or_not}
use Rattle.world_law.proofs.laws.enabled_or_not.Goals as goal

pub returns : goal.returns
returns c = enabled_or_not
