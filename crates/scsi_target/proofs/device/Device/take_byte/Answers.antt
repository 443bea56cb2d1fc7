use Rattle.std.proofs.Common.{ap, sym, ◌∙◌}
use Rattle.target_law.specs.Target.{Target}
use Rattle.target_law.specs.Beginning.{begins}
use Rattle.target_law.specs.Devices.{DeviceState}
use Rattle.target_law.proofs.Beginnings.{target_took-takes, target_took-stays}
use Rattle.scsi_target.proofs.device.Device.take_byte.Goals as goal

pub returns-then-not-byte_out-clause-state : goal.returns-then-not-byte_out-clause-state
returns-then-not-byte_out-clause-state c =
    c.byte_out.ensures.state
    ∙ ap (λ (t : Target). record { target = t; rooms = c.args.self.now.rooms })
    (sym (target_took-stays (λ n. c.args.ticket) c.args.self.now.target c.args.b (sym c.byte_out.ensures.taken ∙ c.if-not-byte_out.true)))

pub returns-clause-state : goal.returns-clause-state
returns-clause-state c =
    c.begin_where_whole.ensures
    ∙ ap (λ (d : DeviceState). record { target = begins (λ n. c.args.ticket) d.target; rooms = d.rooms }) c.byte_out.ensures.state
    ∙ ap (λ (t : Target). record { target = t; rooms = c.args.self.now.rooms })
    (sym (target_took-takes (λ n. c.args.ticket) c.args.self.now.target c.args.b (sym c.byte_out.ensures.taken ∙ c.if-not-byte_out.false)))
