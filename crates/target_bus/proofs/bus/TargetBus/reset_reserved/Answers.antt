use Rattle.std.proofs.Common.{◌<◌, ◌∙◌, ℕ, List, None, false, ap, sym, subst, vec_len, arith}
use Rattle.target_law.specs.Devices.{DeviceState}
use Rattle.scsi_target.specs.Devices.{KeepsPlaces}
use Rattle.bus_law.specs.Bus.{BusState, device_at, bus_reset}
use Rattle.bus_law.specs.Laws.{HasResetRoom}
use Rattle.target_bus.specs.Fields.{bus_of, IsHeldBus}
use Rattle.target_bus.proofs.BusRooms.{all-fit-now}
use Rattle.target_bus.proofs.Resets.{reset-held}
use Rattle.target_bus.proofs.bus.TargetBus.reset_reserved.Goals as goal

pub invariant_of-self : goal.invariant_of-self
invariant_of-self c =
    let bus : BusState = bus_of c.self.inside.devices.items c.self.inside.connected c.self.inside.atn c.self.inside.ack c.self.inside.asked in
    let counted = c.self.invariant.counted in
    let keeps : (k : ℕ) → k < 7 → KeepsPlaces (device_at bus k) = λ k l. c.reset_all.ensures.places k (omega (arith, counted, l)) in
    let room : (id : ℕ) → HasResetRoom (device_at bus id) = all-fit-now c.requires.0 bus (c.self.view_is ∙ c.requires.1) c.self.invariant.seven keeps in
    subst (λ (ds : List DeviceState). IsHeldBus (vec_len c.reset_all.new.devices) (bus_of ds None false false None)) (sym c.reset_all.ensures.devices)
    (reset-held (vec_len c.self.inside.devices) (vec_len c.reset_all.new.devices) bus c.self.invariant room c.reset_all.ensures.count)

pub returns : goal.returns
returns c = ap (λ (ds : List DeviceState). bus_of ds None false false None) c.reset_all.ensures.devices ∙ ap bus_reset c.self.view_is
