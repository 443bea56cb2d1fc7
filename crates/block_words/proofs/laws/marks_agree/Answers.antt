use Rattle.block_words.proofs.LiveWords.{marks-agree}
use Rattle.block_words.proofs.laws.marks_agree.Goals as goal

pub returns : goal.returns
returns c = marks-agree
