use Rattle.chip_rows.proofs.StepWrites.{counts_down}
use Rattle.chip_rows.proofs.laws.moves_count_down.Goals as goal

pub returns : goal.returns
returns g c = counts_down g.B.Bus.moves
