use Rattle.std.proofs.Common.{refl}
use Rattle.sym_top.proofs.SpelledWords.{four_words}
use Rattle.sym_top.proofs.commands.with_four_words.Goals as goal

pub returns-then-is_word-clause-none : goal.returns-then-is_word-clause-none
returns-then-is_word-clause-none c none d spells =
    four_words c.args.name.now c.args.first.now c.args.second.now c.args.third.now c.args.fourth.now (c.if-is_word.ensures.0 refl) (c.step_of.ensures.none none) d spells
