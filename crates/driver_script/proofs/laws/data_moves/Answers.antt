use Rattle.driver_script.proofs.MoveLaws.{has_data_moves}
use Rattle.driver_script.proofs.laws.data_moves.Goals as goal

pub returns : goal.returns
returns c = has_data_moves
