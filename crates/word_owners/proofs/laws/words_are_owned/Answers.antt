use Rattle.word_owners.proofs.Worlds.{words_are_owned}
use Rattle.word_owners.proofs.laws.words_are_owned.Goals as goal

pub returns : goal.returns
returns c = words_are_owned
