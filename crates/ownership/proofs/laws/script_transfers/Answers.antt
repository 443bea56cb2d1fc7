use Rattle.ownership.proofs.Transfers as law
use Rattle.ownership.proofs.laws.script_transfers.Goals as goal

pub returns : goal.returns
returns g c = record { jumps = law.jumps_to g.B.Bus.moves; returns = law.returns_to g.B.Bus.moves; stops = law.stops_with g.B.Bus.moves; interrupts = law.interrupts g.B.Bus.moves }
