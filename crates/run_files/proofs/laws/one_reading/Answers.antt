use Rattle.run_files.proofs.OneReading as law
use Rattle.run_files.proofs.laws.one_reading.Goals as goal

pub returns : goal.returns
returns c = record { rig = law.one_rig; work = law.one_work; trace = law.one_trace }
