use Rattle.bench_jobs.proofs.Replayed.{step_replays}
use Rattle.bench_jobs.proofs.laws.step_replays.Goals as goal

pub returns : goal.returns
returns c = step_replays c.runs_replay.ensures
