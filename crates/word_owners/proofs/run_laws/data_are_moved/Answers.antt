use Rattle.word_owners.proofs.Touches.{data_are_moved}
use Rattle.word_owners.proofs.run_laws.data_are_moved.Goals as goal

abbrev pub returns : goal.returns
returns c = data_are_moved
