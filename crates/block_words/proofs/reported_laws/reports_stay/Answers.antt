use Rattle.block_words.proofs.ReportedRuns.{reports-stay}
use Rattle.block_words.proofs.reported_laws.reports_stay.Goals as goal

pub returns : goal.returns
returns c = reports-stay
