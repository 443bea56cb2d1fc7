use Rattle.std.proofs.Common.{vec_len}
use Rattle.bus_law.specs.Bus.{BusState}
use Rattle.target_bus.specs.Fields.{bus_of}
use Rattle.target_bus.proofs.ConnectedTurns.{asked-held}
use Rattle.target_bus.proofs.bus.TargetBus.phase.Goals as goal

pub invariant_of-self : goal.invariant_of-self
invariant_of-self c =
    let bus : BusState = bus_of c.self.inside.devices.items c.self.inside.connected c.self.inside.atn c.self.inside.ack c.self.inside.asked in
    asked-held (vec_len c.self.inside.devices) bus c.turn-shown.result c.self.invariant
