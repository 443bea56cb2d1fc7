use Rattle.word_owners.proofs.Wakes.{wake}
use Rattle.word_owners.proofs.run_laws.wake.Goals as goal

abbrev pub returns : goal.returns
returns c = wake
