use Rattle.std.proofs.Common.{◌∙◌}
use Rattle.bench_pool.proofs.Following.{follows_on}
use Rattle.bench_pool.proofs.WorkerSteps.{adds_on}
use Rattle.bench_pool.proofs.chip.chip_worker.Goals as goal

pub loop-preserved-in-Ok-Made : goal.loop-preserved-in-Ok-Made
loop-preserved-in-Ok-Made g c =
    let i = c.loop.invariant in
    (tt, tt, c.try_step.ensures.lock ∙ i.2, follows_on _ _ _ i.3 c.try_step.ensures.follows, c.in-Ok-Made.ensures.ok, adds_on _ c.loop.seat.view c.try_step.new.seat.view c.eager.result c.eager.ensures i.5 c.try_step.ensures.adds)

pub loop-preserved : goal.loop-preserved
loop-preserved g c =
    let i = c.loop.invariant in
    (tt, tt, c.try_step.ensures.lock ∙ i.2, follows_on _ _ _ i.3 c.try_step.ensures.follows, c.in-Ok.ensures.ok, adds_on _ c.loop.seat.view c.try_step.new.seat.view c.eager.result c.eager.ensures i.5 c.try_step.ensures.adds)

pub returns-in-Err-clause-eager : goal.returns-in-Err-clause-eager
returns-in-Err-clause-eager g c = adds_on _ c.loop.seat.view c.try_step.new.seat.view c.eager.result c.eager.ensures c.loop.invariant.5 c.try_step.ensures.adds

pub returns-in-Err-clause-fault : goal.returns-in-Err-clause-fault
returns-in-Err-clause-fault g c = (c.ended.ensures _ c.in-Err.ensures.end).1
