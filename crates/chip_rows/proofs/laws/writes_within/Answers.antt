use Rattle.chip_rows.proofs.StepWrites as law
use Rattle.chip_rows.proofs.StepReads.{stays_within}
use Rattle.chip_rows.proofs.laws.writes_within.Goals as goal

pub returns : goal.returns
returns g c = record { size = law.keeps_size g.B.Bus.moves; rows = law.writes_within g.B.Bus.moves; touched = stays_within g.B.Bus.moves; no_row = law.no_row_writes g.B.Bus.moves }
