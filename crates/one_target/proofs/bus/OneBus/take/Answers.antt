use Rattle.std.proofs.Common.{◌≡◌, ◌&&◌, ◌∙◌, ap, sym, subst, refl}
use Rattle.target_law.specs.Calls.{link_takes}
use Rattle.one_target.specs.Bus.{BusState, bus_of, ticket_at, taken_where}
use Rattle.one_target.specs.Holding.{IsHeld}
use Rattle.one_target.proofs.DeviceCalls.{untaken-is, taken-is}
use Rattle.one_target.proofs.Between.{taken-held}
use Rattle.one_target.proofs.bus.OneBus.take.Goals as goal

pub invariant_of-self : goal.invariant_of-self
invariant_of-self c =
    let here : BusState = bus_of c.self.inside.device c.self.inside.atn c.self.inside.ack c.self.inside.asked in
    let is : bus_of c.take_byte.new.self c.self.inside.atn c.self.inside.ack c.self.inside.asked ≡ taken_where (link_takes here.target.link) here c.args.b =
    untaken-is c.self.inside.device c.take_byte.new.self c.self.inside.atn c.self.inside.ack c.self.inside.asked c.ticket_at-ticket.result c.args.b (sym c.take_byte.ensures.taken ∙ c.if-not-take_byte.true)
    c.take_byte.ensures.state in
    subst IsHeld (sym is) (taken-held (link_takes here.target.link) here c.args.b refl c.self.invariant)

pub returns-then-not-take_byte-clause-after : goal.returns-then-not-take_byte-clause-after
returns-then-not-take_byte-clause-after c =
    untaken-is c.self.inside.device c.take_byte.new.self c.self.inside.atn c.self.inside.ack c.self.inside.asked c.ticket_at-ticket.result c.args.b (sym c.take_byte.ensures.taken ∙ c.if-not-take_byte.true)
    c.take_byte.ensures.state
    ∙ ap (λ (b : BusState). taken_where (link_takes b.target.link) b c.args.b) c.self.view_is

pub invariant_of-self-2 : goal.invariant_of-self-2
invariant_of-self-2 c =
    let here : BusState = bus_of c.self.inside.device c.self.inside.atn c.self.inside.ack c.self.inside.asked in
    let is : bus_of c.take_byte.new.self (c.self.inside.atn && c.connected-bound.result) (c.self.inside.ack && c.connected-bound.result) c.self.inside.asked ≡ taken_where (link_takes here.target.link) here c.args.b =
    taken-is c.self.inside.device c.take_byte.new.self c.self.inside.atn c.self.inside.ack c.connected-bound.result c.self.inside.asked c.ticket_at-ticket.result c.args.b
    (sym c.take_byte.ensures.taken ∙ c.if-not-take_byte.false) (c.ticket_at-ticket.ensures ∙ ap ticket_at c.nexus.ensures.nexus) c.take_byte.ensures.state c.connected-bound.ensures in
    subst IsHeld (sym is) (taken-held (link_takes here.target.link) here c.args.b refl c.self.invariant)

pub returns-clause-after : goal.returns-clause-after
returns-clause-after c =
    taken-is c.self.inside.device c.take_byte.new.self c.self.inside.atn c.self.inside.ack c.connected-bound.result c.self.inside.asked c.ticket_at-ticket.result c.args.b
    (sym c.take_byte.ensures.taken ∙ c.if-not-take_byte.false) (c.ticket_at-ticket.ensures ∙ ap ticket_at c.nexus.ensures.nexus) c.take_byte.ensures.state c.connected-bound.ensures
    ∙ ap (λ (b : BusState). taken_where (link_takes b.target.link) b c.args.b) c.self.view_is
