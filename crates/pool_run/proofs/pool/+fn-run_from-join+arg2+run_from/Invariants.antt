use Rattle.std.proofs.Common.{◌-◌, ◌*◌}
use Rattle.pool_run.proofs.pool.+fn-run_from-join+arg2+run_from.Given as goal

abbrev pub decreases-run_from : goal.decreases-run_from
decreases-run_from g l = 2 * (l.callers - l.next)

abbrev pub decreases-join+arg2 : goal.decreases-join+arg2
decreases-join+arg2 g l = 2 * (l.callers - l.next) - 1
