use Rattle.run_joined.proofs.JoinedRuns.{joined-runs-fit}
use Rattle.run_joined.proofs.laws.joined_runs_fit.Goals as goal

pub returns : goal.returns
returns c = joined-runs-fit
