use Rattle.std.proofs.Common.{refl}
use Rattle.sym_top.proofs.SpelledWords.{two_words}
use Rattle.sym_top.proofs.commands.with_two_words.Goals as goal

pub returns-in_err-numbers-clause-none : goal.returns-in_err-numbers-clause-none
returns-in_err-numbers-clause-none c none d spells =
    two_words c.args.name.now c.args.first.now c.args.second.now (c.if-is_word-2.ensures.0 refl) (c.in_err-numbers.ensures.none refl) d spells
