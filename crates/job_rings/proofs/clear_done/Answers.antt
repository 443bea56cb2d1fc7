use Rattle.job_rings.proofs.RingLaws.{cleared_wrote}
use Rattle.job_rings.proofs.clear_done.Goals as goal

pub returns-clause-words : goal.returns-clause-words
returns-clause-words c =
    rw c.set.ensures.wrote (cleared_wrote c.args.words.now c.args.slot c.requires.memory c.requires.slot)
