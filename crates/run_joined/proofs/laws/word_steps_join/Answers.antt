use Rattle.run_joined.proofs.WordSteps.{word-steps-join}
use Rattle.run_joined.proofs.laws.word_steps_join.Goals as goal

pub returns : goal.returns
returns c = word-steps-join
