use Rattle.bench_lock.proofs.Own.{after_others}
use Rattle.bench_lock.proofs.laws.steps_after_others.Goals as goal

pub returns : goal.returns
returns g c = after_others g.M.Machine.allows g.M.Machine.records
