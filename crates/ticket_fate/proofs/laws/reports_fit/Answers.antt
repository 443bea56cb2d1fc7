use Rattle.ticket_fate.proofs.Reached.{reports-fit}
use Rattle.ticket_fate.proofs.laws.reports_fit.Goals as goal

pub returns : goal.returns
returns c = reports-fit
