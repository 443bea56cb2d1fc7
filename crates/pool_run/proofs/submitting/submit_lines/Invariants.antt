use Rattle.std.proofs.Common.{◌≡◌}
use Rattle.bench_lock.specs.Views.{Follows}
use Rattle.pool_run.specs.Callers.{RestsAfter}
use Rattle.pool_run.proofs.submitting.submit_lines.Given as goal

abbrev pub invariant-loop-number : goal.invariant-loop-number
invariant-loop-number g l = record {
  lock : l.seat.lock ≡ l.fn.seat.lock;
  follows : Follows l.fn.seat.view l.seat.view;
  rests : RestsAfter l.choices l.submitter l.number l.seat.view;
}
