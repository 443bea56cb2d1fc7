use Rattle.bench_pool.proofs.Following.{follows_stepped}
use Rattle.bench_pool.proofs.WorkerSteps.{may_add, sees_after, drained_after}
use Rattle.bench_pool.proofs.worker.try_step.Goals as goal

pub returns-in-NotNow-clause-end : goal.returns-in-NotNow-clause-end
returns-in-NotNow-clause-end g c = drained_after _ _ _ _ _ _ c.apply.ensures.stepped.1 c.in-NotNow.seen c.requires.sees c.in-NotNow.is c.if-seen.true

pub returns-in_default-2 : goal.returns-in_default-2
returns-in_default-2 g c =
    let s = c.apply.ensures.stepped.1 in
    record {
      lock = c.apply.ensures.lock;
      follows = follows_stepped _ _ _ _ _ _ s;
      adds = may_add _ _ _ _ _ _ s;
      ok = sees_after _ _ _ _ _ _ s c.requires.sees;
      end = tt;
    }
