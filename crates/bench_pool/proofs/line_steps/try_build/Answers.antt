use Rattle.std.proofs.Common.{◌∙◌, sym}
use Rattle.bench_pool.proofs.Following.{follows_stepped}
use Rattle.bench_pool.proofs.LineSteps.{built_tried, refused_tried, wanting_tried, refused_again, again_otherwise}
use Rattle.bench_pool.proofs.line_steps.try_build.Goals as goal

pub returns-in-Built-clause-tried : goal.returns-in-Built-clause-tried
returns-in-Built-clause-tried g c = built_tried _ _ _ _ c.requires.begin _ _ _ c.apply.ensures.stepped.1 c.in-Built.ticket c.in-Built.is

pub returns-else-waits_for_room-clause-tried : goal.returns-else-waits_for_room-clause-tried
returns-else-waits_for_room-clause-tried g c =
    refused_tried _ _ _ _ c.requires.begin _ _ _ c.apply.ensures.stepped.1 c.in-Refused.refused (sym c.waits_for_room.ensures ∙ c.if-waits_for_room.false) c.in-Refused.is

pub returns-in-OutOfMemory-clause-tried : goal.returns-in-OutOfMemory-clause-tried
returns-in-OutOfMemory-clause-tried g c = wanting_tried _ _ _ _ c.requires.begin _ _ _ c.apply.ensures.stepped.1 c.in-OutOfMemory.is

pub returns-then-waits_for_room-clause-tried : goal.returns-then-waits_for_room-clause-tried
returns-then-waits_for_room-clause-tried g c =
    refused_again _ _ _ _ c.requires.begin _ _ _ c.apply.ensures.stepped.1 c.in-Refused.refused (sym c.waits_for_room.ensures ∙ c.if-waits_for_room.true) c.in-Refused.is

pub returns-in_default : goal.returns-in_default
returns-in_default g c = record {
  lock = c.apply.ensures.lock;
  follows = follows_stepped _ _ _ _ _ _ c.apply.ensures.stepped.1;
  tried = again_otherwise _ _ _ _ c.requires.begin _ _ _ c.apply.ensures.stepped.1 c.in_default.not-Built c.in_default.not-Refused c.in_default.not-StepLimit;
}
