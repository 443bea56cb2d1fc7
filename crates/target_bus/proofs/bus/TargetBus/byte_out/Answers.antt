use Rattle.std.proofs.Common.{◌≡◌, ◌∙◌, ap, sym, subst, vec_len, true, false}
use Rattle.target_law.specs.Calls.{link_takes, nexus_of}
use Rattle.target_law.specs.Devices.{DeviceState}
use Rattle.target_law.specs.Target.{Target}
use Rattle.bus_law.specs.Bus.{BusState, link_on, becomes}
use Rattle.bus_law.specs.Bytes.{device_took, after_byte_out}
use Rattle.target_bus.specs.Fields.{bus_of, IsHeldBus, ticket_on}
use Rattle.target_bus.proofs.BusInvariant.{link-is, here-is, changed-is, stays-is, untook, took-live, took-is, took-held}
use Rattle.target_bus.proofs.bus.TargetBus.byte_out.Goals as goal

pub invariant_of-self : goal.invariant_of-self
invariant_of-self g c =
    let bus : BusState = bus_of c.self.inside.devices.items c.self.inside.connected c.self.inside.atn c.self.inside.ack c.self.inside.asked in
    let here = here-is (vec_len c.self.inside.devices) bus c.in-Some.id c.index_mut.result.now c.self.invariant c.in-Some.is c.index_mut.ensures.value in
    let none : link_takes c.index_mut.result.now.target.link ≡ false = sym c.take_byte.ensures.taken ∙ c.if-not-take_byte.true in
    let same =
    stays-is (vec_len c.self.inside.devices) bus c.in-Some.id c.take_byte.new.self c.index_mut.result.now c.self.invariant c.in-Some.is c.index_mut.ensures.value
    (c.take_byte.ensures.state ∙ ap (λ (t : Target). record { target = t; rooms = c.index_mut.result.now.rooms }) (untook _ c.index_mut.result.now.target c.args.b none)) in
    subst (IsHeldBus (vec_len c.self.inside.devices)) (sym same) c.self.invariant

pub returns-then-not-take_byte-clause-state : goal.returns-then-not-take_byte-clause-state
returns-then-not-take_byte-clause-state g c =
    let bus : BusState = bus_of c.self.inside.devices.items c.self.inside.connected c.self.inside.atn c.self.inside.ack c.self.inside.asked in
    let here = here-is (vec_len c.self.inside.devices) bus c.in-Some.id c.index_mut.result.now c.self.invariant c.in-Some.is c.index_mut.ensures.value in
    let none : link_takes c.index_mut.result.now.target.link ≡ false = sym c.take_byte.ensures.taken ∙ c.if-not-take_byte.true in
    let same =
    stays-is (vec_len c.self.inside.devices) bus c.in-Some.id c.take_byte.new.self c.index_mut.result.now c.self.invariant c.in-Some.is c.index_mut.ensures.value
    (c.take_byte.ensures.state ∙ ap (λ (t : Target). record { target = t; rooms = c.index_mut.result.now.rooms }) (untook _ c.index_mut.result.now.target c.args.b none)) in
    same ∙ c.self.view_is

pub invariant_of-self-2 : goal.invariant_of-self-2
invariant_of-self-2 g c =
    let bus : BusState = bus_of c.self.inside.devices.items c.self.inside.connected c.self.inside.atn c.self.inside.ack c.self.inside.asked in
    let id = c.in-Some.id in
    let live = (g.L.LiveTickets.live c.args.tickets.now) in
    let here = here-is (vec_len c.self.inside.devices) bus id c.index_mut.result.now c.self.invariant c.in-Some.is c.index_mut.ensures.value in
    let there = here-is (vec_len c.self.inside.devices) bus id c.index.result.now c.self.invariant c.in-Some.is c.index.ensures in
    let takes : link_takes (link_on bus) ≡ true =
    ap link_takes (link-is bus id c.in-Some.is) ∙ ap (λ (d : DeviceState). link_takes d.target.link) (sym here) ∙ sym c.take_byte.ensures.taken ∙ c.if-not-take_byte.false in
    let ticket = c.ticket_on-ticket.ensures ∙ ap (ticket_on (live id)) (c.nexus-nexus.ensures.nexus ∙ ap (λ (d : DeviceState). nexus_of d.target.link) (there ∙ sym here)) in
    let took = c.take_byte.ensures.state ∙ ap (λ (t : Target). record { target = t; rooms = c.index_mut.result.now.rooms }) (took-live _ (live id) c.index_mut.result.now.target c.args.b ticket) in
    let changed =
    changed-is (vec_len c.self.inside.devices) bus id c.take_byte.new.self c.index-2.result.now c.connected-bound.result c.kept_if-self-inside.result c.self.invariant c.in-Some.is c.index-2.ensures c.connected-bound.ensures c.kept_if-self-inside.ensures
    ∙ ap (λ (d : DeviceState). becomes bus id d) (took ∙ ap (λ (d : DeviceState). device_took live id d c.args.b) here) in
    subst (IsHeldBus (vec_len c.self.inside.devices)) (sym changed) (took-held (vec_len c.self.inside.devices) live bus id c.args.b c.self.invariant c.in-Some.is takes)

pub returns-clause-state : goal.returns-clause-state
returns-clause-state g c =
    let bus : BusState = bus_of c.self.inside.devices.items c.self.inside.connected c.self.inside.atn c.self.inside.ack c.self.inside.asked in
    let id = c.in-Some.id in
    let live = (g.L.LiveTickets.live c.args.tickets.now) in
    let here = here-is (vec_len c.self.inside.devices) bus id c.index_mut.result.now c.self.invariant c.in-Some.is c.index_mut.ensures.value in
    let there = here-is (vec_len c.self.inside.devices) bus id c.index.result.now c.self.invariant c.in-Some.is c.index.ensures in
    let takes : link_takes (link_on bus) ≡ true =
    ap link_takes (link-is bus id c.in-Some.is) ∙ ap (λ (d : DeviceState). link_takes d.target.link) (sym here) ∙ sym c.take_byte.ensures.taken ∙ c.if-not-take_byte.false in
    let ticket = c.ticket_on-ticket.ensures ∙ ap (ticket_on (live id)) (c.nexus-nexus.ensures.nexus ∙ ap (λ (d : DeviceState). nexus_of d.target.link) (there ∙ sym here)) in
    let took = c.take_byte.ensures.state ∙ ap (λ (t : Target). record { target = t; rooms = c.index_mut.result.now.rooms }) (took-live _ (live id) c.index_mut.result.now.target c.args.b ticket) in
    let changed =
    changed-is (vec_len c.self.inside.devices) bus id c.take_byte.new.self c.index-2.result.now c.connected-bound.result c.kept_if-self-inside.result c.self.invariant c.in-Some.is c.index-2.ensures c.connected-bound.ensures c.kept_if-self-inside.ensures
    ∙ ap (λ (d : DeviceState). becomes bus id d) (took ∙ ap (λ (d : DeviceState). device_took live id d c.args.b) here) in
    changed ∙ took-is live bus id c.args.b c.in-Some.is ∙ ap (λ (b : BusState). after_byte_out live true b.connected c.args.b b) c.self.view_is
