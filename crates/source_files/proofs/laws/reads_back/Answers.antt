use Rattle.source_files.proofs.Back as law
use Rattle.source_files.proofs.laws.reads_back.Goals as goal

pub returns : goal.returns
returns c = law.reads_back
