use Rattle.block_words.proofs.Marks.{marks-are-told}
use Rattle.block_words.proofs.laws.marks_are_told.Goals as goal

pub returns : goal.returns
returns c = marks-are-told
