use Rattle.std.proofs.Common.{arith, refl}
use Rattle.tag_tables.proofs.TagLaws.{linked_wrote, linked_others}
use Rattle.tag_tables.proofs.link.Goals as goal

whole : goal.returns-clause-wrote
whole c = rw (c.set.ensures.wrote, c.tag_entry.ensures) refl

pub returns-clause-wrote : goal.returns-clause-wrote
returns-clause-wrote c = whole c

pub returns-clause-words : goal.returns-clause-words
returns-clause-words c =
    rw (whole c) (linked_wrote c.args.words.now c.args.unit c.args.tag c.args.block c.requires.memory c.requires.unit (omega arith) (omega arith))

pub returns-clause-others : goal.returns-clause-others
returns-clause-others c =
    rw (whole c) (linked_others c.args.words.now c.args.unit c.args.tag c.args.block c.requires.memory c.requires.unit (omega arith) (omega arith))
