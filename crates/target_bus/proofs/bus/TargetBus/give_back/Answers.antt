use Rattle.std.proofs.Common.{◌∙◌, ap, subst, sym, refl, vec_len, arith}
use Rattle.target_law.specs.Devices.{DeviceState}
use Rattle.bus_law.specs.Bus.{BusState, device_at}
use Rattle.target_bus.specs.Fields.{bus_of}
use Rattle.target_bus.specs.Rooms.{WasReserved}
use Rattle.target_bus.proofs.LogRooms.{room-target}
use Rattle.target_bus.proofs.BusRooms.{set-held, give-back, reserved-here, read-any}
use Rattle.target_bus.proofs.bus.TargetBus.give_back.Goals as goal

pub index_mut-requires : goal.index_mut-requires
index_mut-requires c = let n = c.self.invariant.counted in let l = c.requires.target in omega arith

pub give_back_all-requires : goal.give_back_all-requires
give_back_all-requires c =
    let bus : BusState = bus_of c.self.inside.devices.items c.self.inside.connected c.self.inside.atn c.self.inside.ack c.self.inside.asked in
    let r = c.requires.reserved in
    let was : WasReserved r.0 c.args.target c.args.rooms.now bus = subst (λ (x : BusState). WasReserved r.0 c.args.target c.args.rooms.now x) (sym c.self.view_is) r.1 in
    (device_at r.0 c.args.target, was.before, reserved-here r.0 bus c.args.target c.args.rooms.now c.index_mut.result.now was c.self.invariant.seven c.requires.target c.index_mut.ensures.value)

pub invariant_of-self : goal.invariant_of-self
invariant_of-self c =
    let bus : BusState = bus_of c.self.inside.devices.items c.self.inside.connected c.self.inside.atn c.self.inside.ack c.self.inside.asked in
    let r = c.requires.reserved in
    let was : WasReserved r.0 c.args.target c.args.rooms.now bus = subst (λ (x : BusState). WasReserved r.0 c.args.target c.args.rooms.now x) (sym c.self.view_is) r.1 in
    let here = reserved-here r.0 bus c.args.target c.args.rooms.now c.index_mut.result.now was c.self.invariant.seven c.requires.target c.index_mut.ensures.value in
    let back = c.give_back_all.ensures (device_at r.0 c.args.target) was.before here in
    let seven = c.self.invariant.seven in
    let low = c.requires.target in
    let old = read-any bus.devices c.args.target c.index_mut.result.now _ (omega arith) c.index_mut.ensures.value in
    set-held (vec_len c.self.inside.devices) _ bus c.args.target c.give_back_all.new.device c.self.invariant
    (ap (λ (d : DeviceState). d.target) back ∙ sym (room-target (device_at r.0 c.args.target)) ∙ ap (λ (d : DeviceState). d.target) (sym here ∙ old)) refl

pub returns : goal.returns
returns c = λ b r.
    let bus : BusState = bus_of c.self.inside.devices.items c.self.inside.connected c.self.inside.atn c.self.inside.ack c.self.inside.asked in
    let was : WasReserved b c.args.target c.args.rooms.now bus = subst (λ (x : BusState). WasReserved b c.args.target c.args.rooms.now x) (sym c.self.view_is) r in
    give-back b bus c.args.target c.give_back_all.new.device c.args.rooms.now was
    (c.give_back_all.ensures (device_at b c.args.target) was.before (reserved-here b bus c.args.target c.args.rooms.now c.index_mut.result.now was c.self.invariant.seven c.requires.target c.index_mut.ensures.value))
