use Rattle.std.proofs.Common.{◌∙◌, ap, sym, arith, is_none, vec_len}
use Rattle.bus_law.specs.Bus.{BusState}
use Rattle.bus_law.specs.Reselections.{can_select}
use Rattle.target_bus.specs.Fields.{bus_of}
use Rattle.target_bus.proofs.Selections.{cannot-busy, cannot-past, can-there}
use Rattle.target_bus.proofs.bus.TargetBus.can_select.Goals as goal

pub returns-then-not-is_free-clause-can : goal.returns-then-not-is_free-clause-can
returns-then-not-is_free-clause-can c = cannot-busy c.args.self.now c.args.id (sym c.is_free.ensures ∙ c.if-not-is_free.true)

pub returns-then-len-id-clause-can : goal.returns-then-len-id-clause-can
returns-then-len-id-clause-can c =
    let bus : BusState = bus_of c.self.inside.devices.items c.self.inside.connected c.self.inside.atn c.self.inside.ack c.self.inside.asked in
    let counted = c.self.invariant.counted in
    cannot-past (vec_len c.self.inside.devices) bus c.args.id c.self.invariant (omega arith) ∙ ap (λ (b : BusState). can_select b c.args.id) c.self.view_is

pub returns-clause-can : goal.returns-clause-can
returns-clause-can c =
    let bus : BusState = bus_of c.self.inside.devices.items c.self.inside.connected c.self.inside.atn c.self.inside.ack c.self.inside.asked in
    let counted = c.self.invariant.counted in
    can-there (vec_len c.self.inside.devices) bus c.args.id c.index.result.now c.answers.result c.self.invariant (ap (λ (b : BusState). is_none b.connected) c.self.view_is ∙ sym c.is_free.ensures ∙ c.if-not-is_free.false) (omega arith) c.index.ensures c.answers.ensures.answers
    ∙ ap (λ (b : BusState). can_select b c.args.id) c.self.view_is

pub returns-clause-within : goal.returns-clause-within
returns-clause-within c = λ h. let counted = c.self.invariant.counted in omega arith
