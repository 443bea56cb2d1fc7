use Rattle.chip_rows.proofs.StepWrites as law
use Rattle.chip_rows.proofs.laws.stops_leave_memory.Goals as goal

pub returns : goal.returns
returns g c = law.stops_leave_memory g.B.Bus.moves
