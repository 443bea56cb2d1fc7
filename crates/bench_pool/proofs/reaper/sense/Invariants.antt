use Rattle.std.proofs.Common.{◌≡◌}
use Rattle.bench_lock.specs.Views.{Follows}
use Rattle.bench_pool.specs.Workers.{Sees}
use Rattle.bench_pool.proofs.reaper.sense.Given as goal

abbrev pub invariant-loop : goal.invariant-loop
invariant-loop g l =
    (goal.iterator-loop g).can_next l.iterator' × (goal.iterator-loop g).is_finite l.iterator' × (l.seat.lock ≡ l.fn.seat.lock) × Follows l.fn.seat.view l.seat.view × Sees l.seat.view
