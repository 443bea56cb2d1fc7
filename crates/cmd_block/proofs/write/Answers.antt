use Rattle.std.proofs.Common.{arith, refl}
use Rattle.cmd_block.proofs.FieldLaws.{wrote-field}
use Rattle.cmd_block.proofs.write.Goals as goal

whole : goal.returns-clause-wrote
whole c = rw (c.set.ensures.wrote, c.offset.ensures) refl

pub returns-clause-wrote : goal.returns-clause-wrote
returns-clause-wrote c = whole c

pub returns-clause-words : goal.returns-clause-words
returns-clause-words c =
    rw (whole c) (wrote-field c.args.words.now c.args.block c.args.word c.args.field c.requires.memory c.requires.place c.requires.field (omega arith))
