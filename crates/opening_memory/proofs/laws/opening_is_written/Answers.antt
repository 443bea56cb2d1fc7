use Rattle.opening_memory.proofs.OpeningLaws.{is_written, exists, writes_parts}
use Rattle.opening_memory.proofs.laws.opening_is_written.Goals as goal

pub returns : goal.returns
returns c = record { written = is_written; exists = exists; parts = writes_parts }
