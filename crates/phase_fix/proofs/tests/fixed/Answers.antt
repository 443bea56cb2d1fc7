use Rattle.std.proofs.Common.{rules}
use Rattle.bench_words.specs.Memory.{word_at}
use Rattle.phase_fix.specs.Repair.{IsFixable}
use Rattle.phase_fix.proofs.tests.fixed.Goals as goal

pub fix-requires-2-clause-entry : goal.fix-requires-2-clause-entry
fix-requires-2-clause-entry g c =
    let can : IsFixable (word_at c.args.words.now) 0x10000 c.args.dsp c.args.dbc = search rules in
    can.entry
