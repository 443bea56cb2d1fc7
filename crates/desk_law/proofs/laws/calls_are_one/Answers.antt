use Rattle.desk_law.proofs.Builds.{builds_once, frees_once}
use Rattle.desk_law.proofs.laws.calls_are_one.Goals as goal

pub returns : goal.returns
returns c = record { builds = builds_once; frees = frees_once }
