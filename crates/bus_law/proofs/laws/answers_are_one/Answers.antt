use Rattle.bus_law.proofs.OneAnswer.{answers_once, steps_once}
use Rattle.bus_law.proofs.laws.answers_are_one.Goals as goal

pub returns : goal.returns
returns c = record { calls = answers_once; steps = steps_once }
