use Rattle.word_owners.proofs.DataMoves.{data_moves_hold}
use Rattle.word_owners.proofs.chip_laws.data_moves_hold.Goals as goal

pub returns : goal.returns
returns c = data_moves_hold
