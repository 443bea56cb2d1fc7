use Rattle.chip_needs.proofs.OwnMoves.{own-moves-stand}
use Rattle.chip_needs.proofs.laws.own_moves_stand.Goals as goal

pub returns : goal.returns
returns c = own-moves-stand
