use Rattle.chip_needs.proofs.Greeting.{greetings-are-told}
use Rattle.chip_needs.proofs.laws.greetings_are_told.Goals as goal

pub returns : goal.returns
returns c = greetings-are-told
