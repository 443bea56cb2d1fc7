use Rattle.std.proofs.Common.{◌-◌, ◌*◌}
use Rattle.lock_callers.proofs.+fn-from_next-join+arg2+from_next.Given as goal

abbrev pub decreases-from_next : goal.decreases-from_next
decreases-from_next g l = 2 * (l.callers - l.next)

abbrev pub decreases-join+arg2 : goal.decreases-join+arg2
decreases-join+arg2 g l = 2 * (l.callers - l.next) - 1
