use Rattle.seat_law.proofs.Answered.{answered}
use Rattle.seat_law.proofs.laws.answered_at_once.Goals as goal

pub returns : goal.returns
returns c = answered
