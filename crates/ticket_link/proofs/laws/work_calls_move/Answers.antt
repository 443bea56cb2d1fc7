use Rattle.ticket_link.proofs.WorkCalls.{work-calls-move}
use Rattle.ticket_link.proofs.laws.work_calls_move.Goals as goal

pub returns : goal.returns
returns c = work-calls-move
