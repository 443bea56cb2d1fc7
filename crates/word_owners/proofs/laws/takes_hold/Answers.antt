use Rattle.word_owners.proofs.DoneTaken.{take_holds}
use Rattle.word_owners.proofs.laws.takes_hold.Goals as goal

pub returns : goal.returns
returns c = take_holds
