use Rattle.run_joined.proofs.Opening.{opening-is-joined}
use Rattle.run_joined.proofs.laws.opening_is_joined.Goals as goal

pub returns : goal.returns
returns c = opening-is-joined
