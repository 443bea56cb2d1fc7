use Rattle.word_owners.proofs.Builds.{builds_hold}
use Rattle.word_owners.proofs.space_laws.builds_hold.Goals as goal

pub returns : goal.returns
returns c = builds_hold
