use Rattle.block_words.proofs.HeldBuffers.{buffers-stay}
use Rattle.block_words.proofs.ended_laws.buffers_stay.Goals as goal

pub returns : goal.returns
returns c = buffers-stay
