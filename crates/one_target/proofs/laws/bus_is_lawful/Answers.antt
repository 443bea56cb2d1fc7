use Rattle.one_target.specs.BusLaw.{moves_lawfully}
use Rattle.one_target.proofs.laws.bus_is_lawful.Goals as goal

pub returns : goal.returns
returns c = moves_lawfully
