use Rattle.world_law.proofs.MoreLines.{opens_alike, extends}
use Rattle.world_law.proofs.laws.longer_works.Goals as goal

pub returns : goal.returns
returns c = record { opening = opens_alike; run = extends }
