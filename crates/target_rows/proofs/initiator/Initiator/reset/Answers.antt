use Rattle.target_law.specs.Target.{target_reset}
use Rattle.target_law.proofs.Rigs.{rigs-reset}
use Rattle.target_rows.proofs.OneUnit.{held-where}
use Rattle.target_rows.proofs.initiator.Initiator.reset.Goals as goal

pub invariant_of-self : goal.invariant_of-self
invariant_of-self c =
    held-where c.self.inside.device c.reset.new.self (target_reset c.self.inside.device.target) c.self.inside.unit c.self.invariant (rigs-reset c.self.inside.device.target) c.reset.ensures.state
