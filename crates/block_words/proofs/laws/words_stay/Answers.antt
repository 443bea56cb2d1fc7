use Rattle.block_words.proofs.KeptWords.{words-stay}
use Rattle.block_words.proofs.laws.words_stay.Goals as goal

pub returns : goal.returns
returns c = words-stay
