use Rattle.block_words.proofs.EndedBlocks.{ended-blocks-stay}
use Rattle.block_words.proofs.ended_laws.ended_blocks_stay.Goals as goal

pub returns : goal.returns
returns c = ended-blocks-stay
