use Rattle.bench_jobs.proofs.OneResults.{one_result}
use Rattle.bench_jobs.proofs.laws.one_result.Goals as goal

pub returns : goal.returns
returns c = one_result c.one_replay.ensures
