use Rattle.block_words.proofs.LiveWords.{lives-of-rules}
use Rattle.block_words.proofs.laws.lives_of_rules.Goals as goal

pub returns : goal.returns
returns c = lives-of-rules
