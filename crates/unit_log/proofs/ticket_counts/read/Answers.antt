use Rattle.std.proofs.Common.{sym, ◌∙◌}
use Rattle.unit_log.proofs.Places.{counts_at, counts_in-gap}
use Rattle.unit_log.proofs.ticket_counts.read.Goals as goal

pub returns-in-Ok : goal.returns-in-Ok
returns-in-Ok c = sym (counts_at _ c.requires _ _ c.in-Ok.ensures.found)

pub returns-in-Err : goal.returns-in-Err
returns-in-Err c = c.empty.ensures ∙ sym (counts_in-gap _ _ _ c.in-Err.ensures.absent)
