use Rattle.block_words.proofs.ReportedRuns.{reported-runs-fit}
use Rattle.block_words.proofs.reported_laws.reported_runs_fit.Goals as goal

pub returns : goal.returns
returns c = reported-runs-fit
