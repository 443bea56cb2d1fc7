use Rattle.world_law.proofs.Callers.{leaves_submitter}
use Rattle.world_law.proofs.laws.others_leave.Goals as goal

pub returns : goal.returns
returns c = leaves_submitter
