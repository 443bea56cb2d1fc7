use Rattle.std.proofs.Common.{◌∙◌, sym, subst, refl}
use Rattle.target_law.specs.Target.{linked}
use Rattle.target_law.specs.Calls.{link_byte, sent_if, WaitsForAck, target_acked}
use Rattle.target_law.specs.Devices.{DeviceState}
use Rattle.target_law.proofs.Rigs.{rigs-acked}
use Rattle.target_rows.proofs.OneUnit.{waits-after, is-in, held-by, held-where}
use Rattle.target_rows.proofs.initiator.Initiator.message_in.Goals as goal

pub end_ack-requires : goal.end_ack-requires
end_ack-requires c =
    subst (λ (d : DeviceState). WaitsForAck d.target.link) (sym c.byte_in-byte.ensures.state)
    (waits-after c.self.inside.device.target.link c.byte_in-byte.result c.byte_in-byte.ensures.byte (sym c.is_some.ensures ∙ c.if-is_some.true)
    (sym c.shown.ensures ∙ is-in c.shown.result (sym c.is_message_in.ensures ∙ c.if-not-is_message_in.false)))

pub invariant_of-self : goal.invariant_of-self
invariant_of-self c =
    held-where c.byte_in-byte.new.self c.end_ack.new.self (target_acked c.byte_in-byte.new.self.target) c.self.inside.unit
    (held-by c.self.inside.device c.byte_in-byte.new.self (linked c.self.inside.device.target (sent_if (link_byte c.self.inside.device.target.link) c.self.inside.device.target.link)) c.self.inside.unit c.self.invariant refl c.byte_in-byte.ensures.state)
    (rigs-acked c.byte_in-byte.new.self.target) c.end_ack.ensures
