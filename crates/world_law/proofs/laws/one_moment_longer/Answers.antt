use Rattle.world_law.proofs.RunLaws.{goes_on, went_on, ends_after}
use Rattle.world_law.proofs.laws.one_moment_longer.Goals as goal

pub returns : goal.returns
returns c = record { longer = goes_on; shorter = went_on; world = ends_after }
