use Rattle.word_owners.proofs.Readings.{rings_are_read}
use Rattle.word_owners.proofs.laws.rings_are_read.Goals as goal

pub returns : goal.returns
returns c = rings_are_read
