use Rattle.word_owners.proofs.Queues.{queue_holds}
use Rattle.word_owners.proofs.laws.queues_hold.Goals as goal

pub returns : goal.returns
returns c = queue_holds
