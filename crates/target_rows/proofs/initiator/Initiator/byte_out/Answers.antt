use Rattle.target_law.specs.Beginning.{target_took}
use Rattle.target_law.proofs.Rigs.{rigs-took}
use Rattle.target_rows.proofs.OneUnit.{held-by}
use Rattle.target_rows.proofs.initiator.Initiator.byte_out.Goals as goal

pub invariant_of-self : goal.invariant_of-self
invariant_of-self c =
    held-by c.self.inside.device c.take_byte.new.self (target_took (λ n. c.args.ticket) c.self.inside.device.target c.args.b) c.self.inside.unit c.self.invariant
    (rigs-took (λ n. c.args.ticket) c.self.inside.device.target c.args.b) c.take_byte.ensures.state
