use Rattle.target_law.specs.Calls.{target_messaged}
use Rattle.target_law.proofs.Rigs.{rigs-messaged}
use Rattle.target_rows.proofs.OneUnit.{held-where}
use Rattle.target_rows.proofs.initiator.Initiator.end_message.Goals as goal

pub invariant_of-self : goal.invariant_of-self
invariant_of-self c =
    held-where c.self.inside.device c.end_message.new.self (target_messaged c.self.inside.device.target) c.self.inside.unit c.self.invariant (rigs-messaged c.self.inside.device.target) c.end_message.ensures
