use Rattle.word_owners.proofs.KeptDesks.{desks_kept}
use Rattle.word_owners.proofs.space_laws.desks_are_kept.Goals as goal

pub returns : goal.returns
returns c = desks_kept
