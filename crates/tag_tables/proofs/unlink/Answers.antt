use Rattle.std.proofs.Common.{arith, refl}
use Rattle.tag_tables.proofs.TagLaws.{unlinked_wrote, unlinked_others}
use Rattle.tag_tables.proofs.unlink.Goals as goal

whole : goal.returns-clause-wrote
whole c = rw (c.set.ensures.wrote, c.tag_entry.ensures) refl

pub returns-clause-wrote : goal.returns-clause-wrote
returns-clause-wrote c = whole c

pub returns-clause-words : goal.returns-clause-words
returns-clause-words c =
    rw (whole c) (unlinked_wrote c.args.words.now c.args.unit c.args.tag c.requires.memory c.requires.unit (omega arith))

pub returns-clause-others : goal.returns-clause-others
returns-clause-others c =
    rw (whole c) (unlinked_others c.args.words.now c.args.unit c.args.tag c.requires.memory c.requires.unit (omega arith))
