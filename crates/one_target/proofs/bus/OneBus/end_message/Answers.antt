use Rattle.std.proofs.Common.{◌≡◌, ◌&&◌, ◌∙◌, ap, sym, subst, refl}
use Rattle.target_law.specs.Calls.{link_phase}
use Rattle.one_target.specs.Bus.{BusState, bus_of, is_message, messaged_where}
use Rattle.one_target.specs.Holding.{IsHeld}
use Rattle.one_target.proofs.DeviceCalls.{heard-is}
use Rattle.one_target.proofs.Between.{messaged-held}
use Rattle.one_target.proofs.bus.OneBus.end_message.Goals as goal

heard : (c : goal.After-self-2-1) → bus_of c.end_message.new.self (c.self.inside.atn && c.connected-bound.result) (c.self.inside.ack && c.connected-bound.result) c.self.inside.asked
    ≡ messaged_where (is_message (link_phase c.self.inside.device.target.link)) (bus_of c.self.inside.device c.self.inside.atn c.self.inside.ack c.self.inside.asked)
heard c =
    heard-is c.self.inside.device c.end_message.new.self c.self.inside.atn c.self.inside.ack c.connected-bound.result c.self.inside.asked c.shown.result c.is_message.result c.shown.ensures c.is_message.ensures
    c.if-not-is_message.false c.end_message.ensures c.connected-bound.ensures

pub invariant_of-self : goal.invariant_of-self
invariant_of-self c =
    subst IsHeld (sym (heard c))
    (messaged-held (is_message (link_phase c.self.inside.device.target.link)) (bus_of c.self.inside.device c.self.inside.atn c.self.inside.ack c.self.inside.asked) refl c.self.invariant)

pub returns : goal.returns
returns c = heard c ∙ ap (λ (b : BusState). messaged_where (is_message (link_phase b.target.link)) b) c.self.view_is
