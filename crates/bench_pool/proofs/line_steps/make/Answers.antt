use Rattle.bench_pool.proofs.Following.{follows_stepped}
use Rattle.bench_pool.proofs.LineSteps.{next_made, next_full}
use Rattle.bench_pool.proofs.line_steps.make.Goals as goal

pub returns-in-Made-clause-follows : goal.returns-in-Made-clause-follows
returns-in-Made-clause-follows g c = follows_stepped _ _ _ _ _ _ c.apply.ensures.stepped.1

pub returns-in-Made-clause-made : goal.returns-in-Made-clause-made
returns-in-Made-clause-made g c = λ s w p at e. (next_made _ s w p _ _ _ _ _ c.apply.ensures.stepped.1 at e c.in-Made.is, tt)

pub returns-in_default : goal.returns-in_default
returns-in_default g c = record {
  lock = c.apply.ensures.lock;
  follows = follows_stepped _ _ _ _ _ _ c.apply.ensures.stepped.1;
  made = λ s w p at e. (tt, next_full _ s w p _ _ _ _ _ c.apply.ensures.stepped.1 at e c.in_default.not-Made);
}
