use Rattle.word_owners.proofs.Buffers.{pointers_stay}
use Rattle.word_owners.proofs.chip_laws.pointers_stay_in_buffers.Goals as goal

pub returns : goal.returns
returns c = pointers_stay
