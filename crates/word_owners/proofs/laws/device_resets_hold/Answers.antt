use Rattle.word_owners.proofs.Jobs.{job_holds}
use Rattle.word_owners.proofs.laws.device_resets_hold.Goals as goal

pub returns : goal.returns
returns c = job_holds
