use Rattle.word_owners.proofs.FrontWrites.{reset_holds}
use Rattle.word_owners.proofs.laws.resets_hold.Goals as goal

pub returns : goal.returns
returns c = reset_holds
