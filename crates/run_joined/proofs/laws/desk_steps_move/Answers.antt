use Rattle.run_joined.proofs.DeskSteps.{desk-steps-move}
use Rattle.run_joined.proofs.laws.desk_steps_move.Goals as goal

pub returns : goal.returns
returns c = desk-steps-move
