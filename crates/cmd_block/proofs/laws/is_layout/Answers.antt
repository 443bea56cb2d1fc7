use Rattle.cmd_block.proofs.FieldLaws as law
use Rattle.cmd_block.proofs.laws.is_layout.Goals as goal

pub returns : goal.returns
returns c = record { layout = law.is_layout; offsets = law.names_offsets }
