use Rattle.chip_rows.proofs.StepWrites.{runs_on}
use Rattle.chip_rows.proofs.laws.step_runs_on.Goals as goal

pub returns : goal.returns
returns g c = runs_on g.B.Bus.moves
