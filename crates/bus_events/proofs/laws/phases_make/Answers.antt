use Rattle.bus_events.proofs.Phases.{phase-makes, shown-makes, leave-makes}
use Rattle.bus_events.proofs.laws.phases_make.Goals as goal

pub returns : goal.returns
returns c = record { phase = phase-makes; shown = shown-makes; leave = leave-makes }
