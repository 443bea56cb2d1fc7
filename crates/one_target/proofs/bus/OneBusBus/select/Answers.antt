use Rattle.one_target.specs.Bus.{bus_of}
use Rattle.one_target.proofs.DeviceCalls.{is-present, selected-held}
use Rattle.one_target.proofs.Between.{kept-of}
use Rattle.one_target.proofs.bus.OneBusBus.select.Goals as goal

pub select-requires-clause-present : goal.select-requires-clause-present
select-requires-clause-present c = is-present c.self.inside.device (kept-of (bus_of c.self.inside.device c.self.inside.atn c.self.inside.ack c.self.inside.asked) c.self.invariant)

pub invariant_of-self : goal.invariant_of-self
invariant_of-self c =
    selected-held c.self.inside.device c.select.new.self c.self.inside.atn c.self.inside.ack c.connected.result c.self.inside.asked c.self.invariant c.connected.ensures c.if-connected.false c.select.ensures
