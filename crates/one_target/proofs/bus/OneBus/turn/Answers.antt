use Rattle.std.proofs.Common.{◌&&◌, subst}
use Rattle.one_target.specs.Bus.{BusState, bus_of, Turns}
use Rattle.one_target.proofs.DeviceCalls.{device-held, turned}
use Rattle.one_target.proofs.Between.{turns-held}
use Rattle.one_target.proofs.bus.OneBus.turn.Goals as goal

pub choose-requires : goal.choose-requires
choose-requires c = device-held c.self.inside.device c.self.inside.atn c.self.inside.ack c.self.inside.asked c.self.invariant

turns : (c : goal.After-self-2-1) → Turns c.args.word (bus_of c.self.inside.device c.self.inside.atn c.self.inside.ack c.self.inside.asked)
    (bus_of c.choose.new.device (c.self.inside.atn && c.connected-bound.result) (c.self.inside.ack && c.connected-bound.result) c.self.inside.asked)
turns c =
    turned c.self.inside.device c.choose.new.device c.self.inside.atn c.self.inside.ack c.connected.result c.connected-bound.result c.self.inside.asked c.args.word c.connected.ensures
    c.if-not-connected.false c.choose.ensures.chooses c.choose.ensures.rooms c.connected-bound.ensures

pub invariant_of-self : goal.invariant_of-self
invariant_of-self c = turns-held (bus_of c.self.inside.device c.self.inside.atn c.self.inside.ack c.self.inside.asked) _ c.args.word c.self.invariant (turns c)

pub returns : goal.returns
returns c =
    subst (λ (b : BusState). Turns c.args.word b (bus_of c.choose.new.device (c.self.inside.atn && c.connected-bound.result) (c.self.inside.ack && c.connected-bound.result) c.self.inside.asked)) c.self.view_is
    (turns c)
