use Rattle.ticket_link.proofs.IdleCalls.{idle-calls-relink}
use Rattle.ticket_link.proofs.laws.idle_calls_relink.Goals as goal

pub returns : goal.returns
returns c = idle-calls-relink
