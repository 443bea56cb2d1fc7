use Rattle.opening_memory.proofs.KeepingLaws.{keeps_constants, keeps_fixed_blocks}
use Rattle.opening_memory.proofs.laws.constants_stay.Goals as goal

pub returns : goal.returns
returns c = record { constants = keeps_constants; blocks = keeps_fixed_blocks }
