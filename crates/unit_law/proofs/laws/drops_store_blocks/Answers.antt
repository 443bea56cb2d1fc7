use Rattle.unit_law.proofs.Drops.{keeps-blocks}
use Rattle.unit_law.proofs.laws.drops_store_blocks.Goals as goal

pub returns : goal.returns
returns c = keeps-blocks
