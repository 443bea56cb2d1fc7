use Rattle.world_law.proofs.OneRun.{does_once, runs_once, one_list}
use Rattle.world_law.proofs.laws.one_run.Goals as goal

pub returns : goal.returns
returns c = record { step = does_once; entries = runs_once; trace = one_list }
