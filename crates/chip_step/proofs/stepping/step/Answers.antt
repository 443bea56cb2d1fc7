use Rattle.std.proofs.Common.{sym, ◌∙◌}
use Rattle.chip_step.specs.Step.{does}
use Rattle.chip_step.proofs.stepping.step.Goals as goal

pub returns-in-Some-clause-does : goal.returns-in-Some-clause-does
returns-in-Some-clause-does g c =
    does (sym c.is_stopped.ensures ∙ c.if-is_stopped.false)
    (sym c.can_read.ensures.can ∙ c.if-not-can_read.false)
    c.in-Some.op
    (rw (c.word-first.ensures, c.word-second.ensures, c.third_word-third.ensures) at c.in-Some.ensures.found)
    (rw (c.len_from.ensures.len, c.word-first.ensures, c.word-second.ensures) at c.execute.ensures.does)
