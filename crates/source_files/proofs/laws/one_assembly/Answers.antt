use Rattle.source_files.proofs.OneAnswer as law
use Rattle.source_files.proofs.laws.one_assembly.Goals as goal

pub returns : goal.returns
returns c = law.one_assembly
