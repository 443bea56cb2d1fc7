use Rattle.std.proofs.Common.{◌≡◌, ◌-◌, Some, sym, subst, ◌∙◌}
use Rattle.bench_words.specs.Memory.{word_at}
use Rattle.phase_fix.specs.declared.moves.DataMove.{DataMove}
use Rattle.phase_fix.specs.Moves.{move_at}
use Rattle.phase_fix.specs.Repair.{IsRepaired}
use Rattle.phase_fix.proofs.MoveLaws.{move_stands}
use Rattle.phase_fix.proofs.RepairLaws.{repaired-within, repaired-last, repaired-saved, repaired-returns}
use Rattle.phase_fix.proofs.fix.Goals as goal

pub repair-requires-clause-is : goal.repair-requires-clause-is
repair-requires-clause-is c = (move_stands (c.args.dsp - 8) c.in-Some.stopped (sym c.move_at.ensures.found ∙ c.in-Some.is)).0

pub repair-requires-clause-entry : goal.repair-requires-clause-entry
repair-requires-clause-entry c = c.requires.entry c.in-Some.stopped (sym c.move_at.ensures.found ∙ c.in-Some.is)

pub returns-clause-within : goal.returns-clause-within
returns-clause-within c =
    let h : move_at (c.args.dsp - 8) ≡ Some c.in-Some.stopped = sym c.move_at.ensures.found ∙ c.in-Some.is in
    repaired-within (word_at c.args.words.now) (word_at c.repair.new.words) c.args.block c.args.dsp c.args.dbc c.in-Some.stopped (c.requires.entry c.in-Some.stopped h).count c.repair.ensures.words

pub returns-clause-last : goal.returns-clause-last
returns-clause-last c x h =
    let e : c.in-Some.stopped ≡ x = cc (c.move_at.ensures.found, c.in-Some.is) in
    let r = subst (λ (y : DataMove). IsRepaired (word_at c.args.words.now) (word_at c.repair.new.words) c.args.block c.args.dsp c.args.dbc y) e c.repair.ensures.words in
    repaired-last (word_at c.args.words.now) (word_at c.repair.new.words) c.args.block c.args.dsp c.args.dbc x c.requires.behind h (c.requires.entry x h).count r

pub returns-clause-saved : goal.returns-clause-saved
returns-clause-saved c =
    let h : move_at (c.args.dsp - 8) ≡ Some c.in-Some.stopped = sym c.move_at.ensures.found ∙ c.in-Some.is in
    repaired-saved (word_at c.args.words.now) (word_at c.repair.new.words) c.args.block c.args.dsp c.args.dbc c.in-Some.stopped (c.requires.entry c.in-Some.stopped h).count c.repair.ensures.words

pub returns-clause-returns : goal.returns-clause-returns
returns-clause-returns c is =
    let h : move_at (c.args.dsp - 8) ≡ Some c.in-Some.stopped = sym c.move_at.ensures.found ∙ c.in-Some.is in
    repaired-returns (word_at c.args.words.now) (word_at c.repair.new.words) c.args.block c.args.dsp c.args.dbc c.in-Some.stopped c.requires.behind h (c.requires.entry c.in-Some.stopped h) c.repair.ensures.words
