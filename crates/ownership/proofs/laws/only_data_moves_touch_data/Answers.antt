use Rattle.ownership.proofs.Control as law
use Rattle.ownership.proofs.laws.only_data_moves_touch_data.Goals as goal

pub returns : goal.returns
returns g c = record { changes = law.changes_control g.B.Bus.moves; reads = law.reads_control g.B.Bus.moves }
