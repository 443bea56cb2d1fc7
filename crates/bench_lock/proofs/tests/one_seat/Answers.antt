use Rattle.std.proofs.Common.{◌∙◌}
use Rattle.bench_lock.proofs.OwnedNumbers.{Follows-stepped, all_of_first}
use Rattle.bench_lock.proofs.tests.one_seat.Goals as goal

pub loop-k-preserved : goal.loop-k-preserved
loop-k-preserved g c = record {
  own = c.apply-applied.ensures.lock ∙ c.loop-k.invariant.own;
  follows = Follows-stepped _ _ _ _ _ _ _ _ _ c.loop-k.invariant.follows c.apply-applied.ensures.stepped.1;
}

pub close-counter-requires-clause-all : goal.close-counter-requires-clause-all
close-counter-requires-clause-all g c = all_of_first _ _ _ _ _ c.in_ok-shared.ensures.view c.loop-k.invariant.follows
