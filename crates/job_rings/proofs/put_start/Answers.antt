use Rattle.std.proofs.Common.{arith, refl}
use Rattle.job_rings.proofs.RingLaws.{started_is}
use Rattle.job_rings.proofs.put_start.Goals as goal

whole : goal.returns-clause-wrote
whole c = rw (c.set-2.ensures.wrote, c.set.ensures.wrote, c.next_slot-next.ensures.next) refl

pub returns-clause-wrote : goal.returns-clause-wrote
returns-clause-wrote c = whole c

pub returns-clause-words : goal.returns-clause-words
returns-clause-words c =
    rw (whole c) (started_is c.args.words.now c.args.slot c.args.block c.requires.memory c.requires.slot (omega arith))
