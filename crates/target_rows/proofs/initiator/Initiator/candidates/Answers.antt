use Rattle.target_rows.proofs.OneUnit.{unit-there}
use Rattle.target_rows.proofs.initiator.Initiator.candidates.Goals as goal

pub can_reselect-requires : goal.can_reselect-requires
can_reselect-requires c = unit-there c.self.inside.device.target.units c.self.inside.unit c.self.invariant
