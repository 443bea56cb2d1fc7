use Rattle.desk_law.proofs.Builds.{refuses_for_one, refuses_or_builds}
use Rattle.desk_law.proofs.laws.refusals_are_one.Goals as goal

pub returns : goal.returns
returns c = record { one_reason = refuses_for_one; not_built = refuses_or_builds }
