use Rattle.opening_memory.proofs.OpeningLaws.{says_names}
use Rattle.opening_memory.proofs.laws.opening_says_names.Goals as goal

pub returns : goal.returns
returns c = says_names
