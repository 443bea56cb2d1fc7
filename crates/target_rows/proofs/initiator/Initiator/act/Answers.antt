use Rattle.target_law.specs.Calls.{target_acted}
use Rattle.target_law.proofs.Rigs.{rigs-acted}
use Rattle.target_rows.proofs.OneUnit.{held-where}
use Rattle.target_rows.proofs.initiator.Initiator.act.Goals as goal

pub invariant_of-self : goal.invariant_of-self
invariant_of-self c =
    held-where c.self.inside.device c.act.new.self (target_acted c.self.inside.device.target c.choose-m.result) c.self.inside.unit c.self.invariant (rigs-acted c.self.inside.device.target c.choose-m.result) c.act.ensures
