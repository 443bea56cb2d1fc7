use Rattle.word_owners.proofs.Opening.{holds_opened}
use Rattle.word_owners.proofs.laws.opening_holds.Goals as goal

pub returns : goal.returns
returns c = holds_opened
