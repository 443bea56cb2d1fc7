use Rattle.target_law.proofs.Tags.{tags_stay}
use Rattle.target_law.proofs.laws.tags_stay_distinct.Goals as goal

pub returns : goal.returns
returns c = tags_stay
