use Rattle.block_words.proofs.EndedReports.{agreements-stay}
use Rattle.block_words.proofs.ended_laws.agreements_stay.Goals as goal

pub returns : goal.returns
returns c = agreements-stay
