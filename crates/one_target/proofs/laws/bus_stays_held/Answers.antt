use Rattle.one_target.proofs.Between.{moves-held}
use Rattle.one_target.proofs.laws.bus_stays_held.Goals as goal

pub returns : goal.returns
returns c = moves-held
