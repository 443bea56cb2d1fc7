use Rattle.std.proofs.Common.{rules, ◌≡◌, true}
use Rattle.bench_words.specs.Memory.{word_at}
use Rattle.phase_fix.specs.Repair.{IsFixable}
use Rattle.bench_state.proofs.Fixes.{fixes_so}
use Rattle.bench_state.proofs.state.State.fix.Goals as goal

-- src/repairing.rt:23:9
pub fix-requires-clause-entry : goal.fix-requires-clause-entry
fix-requires-clause-entry c =
    let yes : c.can_fix.result ≡ true = search rules in
    let can : IsFixable (word_at c.self.inside.words) c.self.inside.regs.dsa c.self.inside.regs.dsp c.self.inside.regs.dbc = c.can_fix.ensures.0 yes in
    can.entry

-- src/repairing.rt:14:5
pub returns-clause-fixes : goal.returns-clause-fixes
returns-clause-fixes c =
    let yes : c.can_fix.result ≡ true = search rules in
    let can : IsFixable (word_at c.self.inside.words) c.self.inside.regs.dsa c.self.inside.regs.dsp c.self.inside.regs.dbc = c.can_fix.ensures.0 yes in
    fixes_so _ _ c.fix.new.words c.label.result c.self.view_is can c.fix.ensures.wrote c.label.ensures
