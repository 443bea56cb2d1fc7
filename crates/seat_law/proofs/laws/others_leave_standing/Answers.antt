use Rattle.seat_law.proofs.Others.{others_leave}
use Rattle.seat_law.proofs.laws.others_leave_standing.Goals as goal

pub returns : goal.returns
returns c = others_leave
