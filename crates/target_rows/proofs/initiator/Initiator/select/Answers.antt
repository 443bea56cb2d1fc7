use Rattle.target_rows.proofs.OneUnit.{present-is}
use Rattle.target_rows.proofs.initiator.Initiator.select.Goals as goal

pub select-requires-clause-present : goal.select-requires-clause-present
select-requires-clause-present c = present-is c.self.inside.device.target c.self.inside.unit c.self.invariant
