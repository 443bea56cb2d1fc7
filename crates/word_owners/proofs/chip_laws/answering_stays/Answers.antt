use Rattle.word_owners.proofs.SelectionAnswers.{answering_stays}
use Rattle.word_owners.proofs.chip_laws.answering_stays.Goals as goal

pub returns : goal.returns
returns c = answering_stays
