use Rattle.ownership.proofs.Footprint.{writes_only}
use Rattle.ownership.proofs.laws.script_writes_only.Goals as goal

pub returns : goal.returns
returns g c = writes_only g.B.Bus.moves
