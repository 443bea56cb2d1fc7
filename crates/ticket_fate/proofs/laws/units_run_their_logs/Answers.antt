use Rattle.ticket_fate.proofs.Reached.{units-run-their-logs}
use Rattle.ticket_fate.proofs.laws.units_run_their_logs.Goals as goal

pub returns : goal.returns
returns c = units-run-their-logs
