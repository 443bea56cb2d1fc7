use Rattle.seat_law.proofs.Answered.{seat_build, seat_next}
use Rattle.seat_law.proofs.laws.submitter_is_answered.Goals as goal

pub returns : goal.returns
returns c = record { told = seat_build; served = seat_next }
