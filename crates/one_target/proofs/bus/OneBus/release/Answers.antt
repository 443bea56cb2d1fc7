use Rattle.std.proofs.Common.{◌≡◌, ◌&&◌, false, ◌∙◌, ap, sym, subst}
use Rattle.one_target.specs.Bus.{bus_of, after_ack}
use Rattle.one_target.specs.Holding.{IsHeld}
use Rattle.one_target.proofs.DeviceCalls.{released-is}
use Rattle.one_target.proofs.Between.{acked-held}
use Rattle.one_target.proofs.bus.OneBus.release.Goals as goal

released : (c : goal.After-self-2-1) → bus_of c.end_ack.new.self (c.self.inside.atn && c.connected-bound.result) false c.self.inside.asked ≡ after_ack (bus_of c.self.inside.device c.self.inside.atn c.self.inside.ack c.self.inside.asked)
released c = released-is c.self.inside.device c.end_ack.new.self c.self.inside.atn c.self.inside.ack c.connected-bound.result c.self.inside.asked c.if-not-self.false c.end_ack.ensures c.connected-bound.ensures

pub invariant_of-self : goal.invariant_of-self
invariant_of-self c = subst IsHeld (sym (released c)) (acked-held c.self.inside.ack (bus_of c.self.inside.device c.self.inside.atn c.self.inside.ack c.self.inside.asked) c.self.invariant)

pub returns : goal.returns
returns c = released c ∙ ap after_ack c.self.view_is
