use Rattle.word_owners.proofs.Senses.{sense_holds}
use Rattle.word_owners.proofs.laws.senses_hold.Goals as goal

pub returns : goal.returns
returns c = sense_holds
