use Rattle.word_owners.proofs.Overruns.{vectors_are_told}
use Rattle.word_owners.proofs.run_laws.vectors_are_told.Goals as goal

abbrev pub returns : goal.returns
returns c = vectors_are_told
