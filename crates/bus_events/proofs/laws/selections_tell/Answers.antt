use Rattle.bus_events.proofs.SelectionsTell.{selections-tell}
use Rattle.bus_events.proofs.laws.selections_tell.Goals as goal

pub returns : goal.returns
returns c = selections-tell
