use Rattle.std.proofs.Common.{◌∙◌, ap, sym, subst, vec_len}
use Rattle.target_law.specs.Calls.{link_phase}
use Rattle.target_law.specs.Devices.{DeviceState}
use Rattle.bus_law.specs.Bus.{BusState, becomes}
use Rattle.bus_law.specs.Choices.{turned, after_turn, phase_after}
use Rattle.target_bus.specs.Fields.{bus_of, IsHeldBus}
use Rattle.target_bus.proofs.BusInvariant.{here-is, changed-is}
use Rattle.target_bus.proofs.ConnectedTurns.{turned-is, turned-shows, turned-held, connected-free, read-set}
use Rattle.target_bus.proofs.bus.TargetBus.turn.Goals as goal

pub turn-requires : goal.turn-requires
turn-requires c =
    let bus : BusState = bus_of c.self.inside.devices.items c.self.inside.connected c.self.inside.atn c.self.inside.ack c.self.inside.asked in
    let here = here-is (vec_len c.self.inside.devices) bus c.in-Some.id c.index_mut.result.now c.self.invariant c.in-Some.is c.index_mut.ensures.value in
    connected-free (vec_len c.self.inside.devices) bus c.in-Some.id c.index_mut.result.now c.self.invariant c.in-Some.is here

pub invariant_of-self : goal.invariant_of-self
invariant_of-self c =
    let bus : BusState = bus_of c.self.inside.devices.items c.self.inside.connected c.self.inside.atn c.self.inside.ack c.self.inside.asked in
    let id = c.in-Some.id in
    let here = here-is (vec_len c.self.inside.devices) bus id c.index_mut.result.now c.self.invariant c.in-Some.is c.index_mut.ensures.value in
    let changed =
    changed-is (vec_len c.self.inside.devices) bus id c.turn.new.device c.index-2.result.now c.connected-bound.result c.kept_if-self-inside.result c.self.invariant c.in-Some.is c.index-2.ensures c.connected-bound.ensures c.kept_if-self-inside.ensures
    ∙ ap (λ (d : DeviceState). becomes bus id d) (c.turn.ensures ∙ ap (λ (d : DeviceState). turned bus.atn c.args.word d) here) in
    subst (IsHeldBus (vec_len c.self.inside.devices)) (sym changed) (turned-held (vec_len c.self.inside.devices) bus id c.args.word c.self.invariant c.in-Some.is)

pub returns-clause-phase : goal.returns-clause-phase
returns-clause-phase c =
    let bus : BusState = bus_of c.self.inside.devices.items c.self.inside.connected c.self.inside.atn c.self.inside.ack c.self.inside.asked in
    let id = c.in-Some.id in
    let here = here-is (vec_len c.self.inside.devices) bus id c.index_mut.result.now c.self.invariant c.in-Some.is c.index_mut.ensures.value in
    let read = read-set (vec_len c.self.inside.devices) bus id c.turn.new.device c.index.result.now c.self.invariant c.in-Some.is c.index.ensures in
    c.shown-shown.ensures ∙ ap (λ (d : DeviceState). link_phase d.target.link) (read ∙ c.turn.ensures ∙ ap (λ (d : DeviceState). turned bus.atn c.args.word d) here)
    ∙ turned-shows bus id c.args.word c.in-Some.is ∙ ap (λ (b : BusState). phase_after b.connected c.args.word b) c.self.view_is

pub returns-clause-state : goal.returns-clause-state
returns-clause-state c =
    let bus : BusState = bus_of c.self.inside.devices.items c.self.inside.connected c.self.inside.atn c.self.inside.ack c.self.inside.asked in
    let id = c.in-Some.id in
    let here = here-is (vec_len c.self.inside.devices) bus id c.index_mut.result.now c.self.invariant c.in-Some.is c.index_mut.ensures.value in
    let changed =
    changed-is (vec_len c.self.inside.devices) bus id c.turn.new.device c.index-2.result.now c.connected-bound.result c.kept_if-self-inside.result c.self.invariant c.in-Some.is c.index-2.ensures c.connected-bound.ensures c.kept_if-self-inside.ensures
    ∙ ap (λ (d : DeviceState). becomes bus id d) (c.turn.ensures ∙ ap (λ (d : DeviceState). turned bus.atn c.args.word d) here) in
    changed ∙ turned-is bus id c.args.word c.in-Some.is ∙ ap (λ (b : BusState). after_turn b.connected c.args.word b) c.self.view_is
