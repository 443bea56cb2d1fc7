use Rattle.word_owners.proofs.StopCauses.{stops_are_handled}
use Rattle.word_owners.proofs.chip_laws.stops_are_handled.Goals as goal

pub returns : goal.returns
returns c = stops_are_handled
