use Rattle.abort_reset.proofs.PatchLaws.{idle_at_front_is}
use Rattle.abort_reset.proofs.front_idle.Goals as goal

pub returns-clause-words : goal.returns-clause-words
returns-clause-words c = rw c.set.ensures.wrote (idle_at_front_is c.args.words.now c.requires)
