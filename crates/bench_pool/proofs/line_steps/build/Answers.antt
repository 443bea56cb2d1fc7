use Rattle.std.proofs.Common.{◌∙◌}
use Rattle.bench_pool.proofs.Following.{follows_on}
use Rattle.bench_pool.proofs.line_steps.build.Goals as goal

pub loop-preserved : goal.loop-preserved
loop-preserved g c =
    let i = c.loop.invariant in
    let t = c.in_default.ensures in
    (tt, tt, t.lock ∙ i.2, follows_on _ _ _ i.3 t.follows, t.tried.0, t.tried.1 ∙ i.5)
