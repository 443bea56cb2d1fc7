use Rattle.std.proofs.Common.{◌≡◌}
use Rattle.bench_lock.specs.Views.{Follows}
use Rattle.bench_lock.proofs.tests.one_seat.Given as goal

abbrev pub invariant-loop-k : goal.invariant-loop-k
invariant-loop-k g l = record { own : l.seat.lock ≡ l.initial.seat.lock; follows : Follows l.initial.seat.view l.seat.view }
