use Rattle.word_owners.proofs.BenchSteps.{bench_steps_hold}
use Rattle.word_owners.proofs.laws.bench_steps_hold.Goals as goal

pub returns : goal.returns
returns c = bench_steps_hold
