use Rattle.std.proofs.Common.{◌∙◌, ap, sym, subst, vec_len, false}
use Rattle.target_law.specs.Devices.{DeviceState}
use Rattle.bus_law.specs.Bus.{BusState, becomes}
use Rattle.bus_law.specs.Attention.{device_acked}
use Rattle.target_bus.specs.Fields.{bus_of, IsHeldBus}
use Rattle.target_bus.proofs.BusInvariant.{here-is, changed-is, acked-held}
use Rattle.target_bus.proofs.bus.TargetBus.clear_ack.Goals as goal

pub invariant_of-self-2 : goal.invariant_of-self-2
invariant_of-self-2 c =
    let bus : BusState = bus_of c.self.inside.devices.items c.self.inside.connected c.self.inside.atn c.self.inside.ack c.self.inside.asked in
    let changed =
    changed-is (vec_len c.self.inside.devices) bus c.in-Some.id c.end_ack.new.self c.index.result.now c.connected-bound.result c.kept_if-self-inside.result c.self.invariant c.in-Some.is c.index.ensures c.connected-bound.ensures c.kept_if-self-inside.ensures
    ∙ ap (λ (d : DeviceState). becomes bus c.in-Some.id d) (c.end_ack.ensures ∙ ap device_acked (here-is (vec_len c.self.inside.devices) bus c.in-Some.id c.index_mut.result.now c.self.invariant c.in-Some.is c.index_mut.ensures.value)) in
    subst (IsHeldBus (vec_len c.self.inside.devices)) (sym (ap (λ (b : BusState). record b { ack = false }) changed)) (acked-held (vec_len c.self.inside.devices) bus c.in-Some.id c.self.invariant c.in-Some.is c.if-not-self.false)
