use Rattle.word_owners.proofs.BufferRuns.{runs_keep_buffers}
use Rattle.word_owners.proofs.chip_laws.runs_keep_buffers.Goals as goal

pub returns : goal.returns
returns c = runs_keep_buffers
