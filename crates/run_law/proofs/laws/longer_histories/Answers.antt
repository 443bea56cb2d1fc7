use Rattle.run_law.proofs.Longer.{notes_on, watches_on}
use Rattle.run_law.proofs.laws.longer_histories.Goals as goal

pub returns : goal.returns
returns c = record { notes = notes_on; watches = watches_on }
