use Rattle.word_owners.proofs.OpenedTargets.{answering_opens}
use Rattle.word_owners.proofs.chip_laws.answering_opens.Goals as goal

pub returns : goal.returns
returns c = answering_opens
