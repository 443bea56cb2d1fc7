use Rattle.seat_law.proofs.Refusals.{told_drained, told_full}
use Rattle.seat_law.proofs.laws.told_of_the_end.Goals as goal

pub returns : goal.returns
returns c = record { drained = told_drained; full = told_full }
