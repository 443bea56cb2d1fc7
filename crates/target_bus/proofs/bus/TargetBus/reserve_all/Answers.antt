use Rattle.std.proofs.Common.{List, subst, sym, vec_len}
use Rattle.target_law.specs.Devices.{DeviceState}
use Rattle.bus_law.specs.Bus.{BusState}
use Rattle.target_bus.specs.Fields.{bus_of, IsHeldBus}
use Rattle.target_bus.specs.Rooms.{with_rooms_from}
use Rattle.target_bus.proofs.BusRooms.{made-held, all-made, none-changed, either, on-ok, on-err}
use Rattle.target_bus.proofs.bus.TargetBus.reserve_all.Goals as goal

pub invariant_of-self : goal.invariant_of-self
invariant_of-self c =
    let bus : BusState = bus_of c.self.inside.devices.items c.self.inside.connected c.self.inside.atn c.self.inside.ack c.self.inside.asked in
    let P = λ (ds : List DeviceState). IsHeldBus (vec_len c.reserve_from.new.devices) (bus_of ds c.self.inside.connected c.self.inside.atn c.self.inside.ack c.self.inside.asked) in
    either c.reserve_from.result P c.reserve_from.new.devices.items (with_rooms_from c.self.inside.devices.items 0 56) c.self.inside.devices.items c.reserve_from.ensures.ok c.reserve_from.ensures.err
    (made-held (vec_len c.self.inside.devices) (vec_len c.reserve_from.new.devices) bus 0 56 c.self.invariant c.reserve_from.ensures.count)
    (subst (λ n. IsHeldBus n bus) (sym c.reserve_from.ensures.count) c.self.invariant)

pub returns-clause-ok : goal.returns-clause-ok
returns-clause-ok c =
    let bus : BusState = bus_of c.self.inside.devices.items c.self.inside.connected c.self.inside.atn c.self.inside.ack c.self.inside.asked in
    on-ok c.reserve_from.result (all-made bus c.args.self.now c.reserve_from.new.devices.items c.self.view_is c.self.invariant.seven) c.reserve_from.ensures.ok

pub returns-clause-err : goal.returns-clause-err
returns-clause-err c =
    let bus : BusState = bus_of c.self.inside.devices.items c.self.inside.connected c.self.inside.atn c.self.inside.ack c.self.inside.asked in
    on-err c.reserve_from.result (none-changed bus c.args.self.now c.reserve_from.new.devices.items c.self.view_is) c.reserve_from.ensures.err
