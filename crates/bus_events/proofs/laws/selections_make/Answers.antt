use Rattle.bus_events.proofs.Selections.{select-makes, reselect-makes}
use Rattle.bus_events.proofs.laws.selections_make.Goals as goal

pub returns : goal.returns
returns c = record { select = select-makes; reselect = reselect-makes }
