use Rattle.run_joined.proofs.DoneSteps.{done-steps-move}
use Rattle.run_joined.proofs.laws.done_steps_move.Goals as goal

pub returns : goal.returns
returns c = done-steps-move
