use Rattle.chip_rows.proofs.StepReads as law
use Rattle.chip_rows.proofs.laws.reads_within.Goals as goal

pub returns : goal.returns
returns g c = law.reads_within g.B.Bus.moves
