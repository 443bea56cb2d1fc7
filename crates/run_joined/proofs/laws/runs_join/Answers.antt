use Rattle.run_joined.proofs.JoinedRuns.{runs-join}
use Rattle.run_joined.proofs.laws.runs_join.Goals as goal

pub returns : goal.returns
returns c = runs-join
