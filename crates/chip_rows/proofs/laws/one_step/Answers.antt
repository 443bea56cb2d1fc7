use Rattle.chip_rows.proofs.Once.{once}
use Rattle.chip_rows.proofs.laws.one_step.Goals as goal

pub returns : goal.returns
returns g c = λ one. once g.B.Bus.moves one
