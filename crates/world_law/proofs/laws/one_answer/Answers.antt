use Rattle.world_law.proofs.Recorded.{answers_once, runs_on}
use Rattle.world_law.proofs.laws.one_answer.Goals as goal

pub returns : goal.returns
returns c = record { once = answers_once; runs_on = runs_on }
