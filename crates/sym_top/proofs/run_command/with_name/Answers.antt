use Rattle.std.proofs.Common.{refl}
use Rattle.sym_top.proofs.RunSpelling.{run_words}
use Rattle.sym_top.proofs.run_command.with_name.Goals as goal

pub returns-then-is_word-clause-none : goal.returns-then-is_word-clause-none
returns-then-is_word-clause-none c none a spells =
    run_words c.args.name.now c.args.rig.now c.args.work.now c.args.seed.now c.args.trace.now (c.if-is_word.ensures.0 refl) (c.with_seed.ensures.none none) a spells
