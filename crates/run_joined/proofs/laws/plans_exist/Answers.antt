use Rattle.run_joined.proofs.Plans.{plans-exist, plans-stay}
use Rattle.run_joined.proofs.laws.plans_exist.Goals as goal

pub returns : goal.returns
returns c = record { exist = plans-exist; stay = plans-stay }
