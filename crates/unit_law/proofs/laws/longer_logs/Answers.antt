use Rattle.unit_law.proofs.Views.{run-push, tally-push}
use Rattle.unit_law.proofs.laws.longer_logs.Goals as goal

pub returns : goal.returns
returns c = record { runs = run-push; counts = tally-push }
