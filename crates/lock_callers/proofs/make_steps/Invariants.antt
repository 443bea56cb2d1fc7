use Rattle.std.proofs.Common.{◌≡◌, ℕ, ◌<◌, Some}
use Rattle.bench_lock.specs.Views.{Follows}
use Rattle.lock_callers.specs.Counted.{IsServed}
use Rattle.lock_callers.specs.declared.counter.Bounds.{Bounds}
use Rattle.lock_callers.proofs.make_steps.Given as goal

abbrev pub invariant-loop-k : goal.invariant-loop-k
invariant-loop-k g l = record {
  lock : l.seat.lock ≡ l.fn.seat.lock;
  follows : Follows l.fn.seat.view l.seat.view;
  served : (b : Bounds) → l.fn.seat.view.opening ≡ Some b → (k : ℕ) → k < l.k → IsServed b l.seat.view.seen l.fn.seat.view.caller k;
}
