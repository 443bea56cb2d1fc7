use Rattle.target_rows.proofs.OneUnit.{unit-there}
use Rattle.target_rows.proofs.initiator.Initiator.log_entry.Goals as goal

pub log_entry-requires : goal.log_entry-requires
log_entry-requires c = unit-there c.self.inside.device.target.units c.self.inside.unit c.self.invariant
