use Rattle.unit_law.proofs.Answers.{answer-of-unit}
use Rattle.unit_law.proofs.laws.data_within_need.Goals as goal

pub returns : goal.returns
returns c = λ requests u log t a e. (answer-of-unit requests u log t a e).most
