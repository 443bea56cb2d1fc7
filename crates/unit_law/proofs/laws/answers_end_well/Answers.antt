use Rattle.unit_law.proofs.Answers.{answer-of-unit}
use Rattle.unit_law.proofs.laws.answers_end_well.Goals as goal

pub returns : goal.returns
returns c = λ requests u log t a e. (answer-of-unit requests u log t a e).ends
