use Rattle.target_law.proofs.Beginnings.{none_waits, shows_none}
use Rattle.target_law.proofs.laws.begins_at_once.Goals as goal

pub returns : goal.returns
returns c = record { begun = none_waits; shows_none = shows_none }
