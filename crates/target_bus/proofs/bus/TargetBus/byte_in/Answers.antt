use Rattle.std.proofs.Common.{◌∙◌, ap, sym, vec_len, ℕ, Option}
use Rattle.scsi_words.specs.declared.phases.kinds.Phase.{Phase as BusPhase}
use Rattle.target_law.specs.Calls.{link_phase}
use Rattle.target_law.specs.Devices.{DeviceState}
use Rattle.bus_law.specs.Bus.{BusState}
use Rattle.bus_law.specs.Bytes.{is_same_phase, byte_of, after_byte_in}
use Rattle.target_bus.specs.Fields.{bus_of}
use Rattle.target_bus.proofs.BusInvariant.{link-is, here-is, gives, unasked-byte}
use Rattle.target_bus.proofs.bus.TargetBus.byte_in.Goals as goal

pub returns-then-not-is_same-clause-byte : goal.returns-then-not-is_same-clause-byte
returns-then-not-is_same-clause-byte c =
    let bus : BusState = bus_of c.self.inside.devices.items c.self.inside.connected c.self.inside.atn c.self.inside.ack c.self.inside.asked in
    let id = c.in-Some.id in
    let there = here-is (vec_len c.self.inside.devices) bus id c.index.result.now c.self.invariant c.in-Some.is c.index.ensures in
    let shown = c.shown-shown.ensures ∙ ap (λ (d : DeviceState). link_phase d.target.link) there ∙ ap link_phase (sym (link-is bus id c.in-Some.is)) in
    let asks = ap (λ (p : Option BusPhase). is_same_phase c.self.inside.asked p) (sym shown) ∙ sym c.is_same.ensures in
    unasked-byte bus (asks ∙ c.if-not-is_same.true) ∙ ap byte_of c.self.view_is

pub invariant_of-self : goal.invariant_of-self
invariant_of-self c =
    let bus : BusState = bus_of c.self.inside.devices.items c.self.inside.connected c.self.inside.atn c.self.inside.ack c.self.inside.asked in
    let id = c.in-Some.id in
    let there = here-is (vec_len c.self.inside.devices) bus id c.index.result.now c.self.invariant c.in-Some.is c.index.ensures in
    let shown = c.shown-shown.ensures ∙ ap (λ (d : DeviceState). link_phase d.target.link) there ∙ ap link_phase (sym (link-is bus id c.in-Some.is)) in
    let asks = ap (λ (p : Option BusPhase). is_same_phase c.self.inside.asked p) (sym shown) ∙ sym c.is_same.ensures in
    let here = here-is (vec_len c.self.inside.devices) bus id c.index_mut.result.now c.self.invariant c.in-Some.is c.index_mut.ensures.value in
    let gave =
    gives c.byte_in-byte.result (vec_len c.self.inside.devices) bus id c.index_mut.result.now c.byte_in-byte.new.self c.shown-shown.result c.ack_by-self-inside.result c.self.invariant c.in-Some.is here shown (asks ∙ c.if-not-is_same.false) c.byte_in-byte.ensures.byte
    c.byte_in-byte.ensures.state c.ack_by-self-inside.ensures in
    gave.held

pub returns-clause-byte : goal.returns-clause-byte
returns-clause-byte c =
    let bus : BusState = bus_of c.self.inside.devices.items c.self.inside.connected c.self.inside.atn c.self.inside.ack c.self.inside.asked in
    let id = c.in-Some.id in
    let there = here-is (vec_len c.self.inside.devices) bus id c.index.result.now c.self.invariant c.in-Some.is c.index.ensures in
    let shown = c.shown-shown.ensures ∙ ap (λ (d : DeviceState). link_phase d.target.link) there ∙ ap link_phase (sym (link-is bus id c.in-Some.is)) in
    let asks = ap (λ (p : Option BusPhase). is_same_phase c.self.inside.asked p) (sym shown) ∙ sym c.is_same.ensures in
    let here = here-is (vec_len c.self.inside.devices) bus id c.index_mut.result.now c.self.invariant c.in-Some.is c.index_mut.ensures.value in
    let gave =
    gives c.byte_in-byte.result (vec_len c.self.inside.devices) bus id c.index_mut.result.now c.byte_in-byte.new.self c.shown-shown.result c.ack_by-self-inside.result c.self.invariant c.in-Some.is here shown (asks ∙ c.if-not-is_same.false) c.byte_in-byte.ensures.byte
    c.byte_in-byte.ensures.state c.ack_by-self-inside.ensures in
    c.as_byte.ensures ∙ gave.byte ∙ ap byte_of c.self.view_is

pub returns-clause-state : goal.returns-clause-state
returns-clause-state c =
    let bus : BusState = bus_of c.self.inside.devices.items c.self.inside.connected c.self.inside.atn c.self.inside.ack c.self.inside.asked in
    let id = c.in-Some.id in
    let there = here-is (vec_len c.self.inside.devices) bus id c.index.result.now c.self.invariant c.in-Some.is c.index.ensures in
    let shown = c.shown-shown.ensures ∙ ap (λ (d : DeviceState). link_phase d.target.link) there ∙ ap link_phase (sym (link-is bus id c.in-Some.is)) in
    let asks = ap (λ (p : Option BusPhase). is_same_phase c.self.inside.asked p) (sym shown) ∙ sym c.is_same.ensures in
    let here = here-is (vec_len c.self.inside.devices) bus id c.index_mut.result.now c.self.invariant c.in-Some.is c.index_mut.ensures.value in
    let gave =
    gives c.byte_in-byte.result (vec_len c.self.inside.devices) bus id c.index_mut.result.now c.byte_in-byte.new.self c.shown-shown.result c.ack_by-self-inside.result c.self.invariant c.in-Some.is here shown (asks ∙ c.if-not-is_same.false) c.byte_in-byte.ensures.byte
    c.byte_in-byte.ensures.state c.ack_by-self-inside.ensures in
    gave.state ∙ ap (λ (x : Option ℕ). after_byte_in bus.connected x bus) (sym c.as_byte.ensures) ∙ ap (λ (b : BusState). after_byte_in b.connected c.as_byte.result b) c.self.view_is
