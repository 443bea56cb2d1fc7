use Rattle.ownership.proofs.Start as law
use Rattle.ownership.proofs.laws.start_enters_blocks.Goals as goal

pub returns : goal.returns
returns g c = record { front = law.enters_front g.B.Bus.moves; ring = law.enters_ring g.B.Bus.moves }
