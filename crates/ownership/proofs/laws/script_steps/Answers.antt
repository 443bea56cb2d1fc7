use Rattle.ownership.proofs.Steps as law
use Rattle.ownership.proofs.laws.script_steps.Goals as goal

pub returns : goal.returns
returns g c = record { row = law.is_row g.B.Bus.moves; step = law.is_step g.B.Bus.moves; next = law.follows }
