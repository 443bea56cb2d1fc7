use Rattle.word_owners.proofs.BuiltBlocks.{block_built}
use Rattle.word_owners.proofs.space_laws.block_is_built.Goals as goal

pub returns : goal.returns
returns c = block_built
