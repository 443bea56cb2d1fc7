use Rattle.word_owners.proofs.BuiltMemory.{build_adds}
use Rattle.word_owners.proofs.space_laws.builds_add.Goals as goal

pub returns : goal.returns
returns c = build_adds
