use Rattle.std.proofs.Common.{◌≡◌, ◌&&◌, ◌∙◌, ap, sym, subst, vec_len, slice_set, true}
use Rattle.target_law.specs.Calls.{link_phase}
use Rattle.target_law.specs.Devices.{DeviceState}
use Rattle.target_law.specs.Target.{ConnectionState}
use Rattle.bus_law.specs.Bus.{BusState, link_on, device_at, becomes}
use Rattle.bus_law.specs.Attention.{is_message_out, device_messaged, messaged}
use Rattle.target_bus.specs.Fields.{bus_of, IsHeldBus}
use Rattle.target_bus.proofs.BusInvariant.{link-is, here-is, changed-is, messaged-is, heard-held}
use Rattle.target_bus.proofs.bus.TargetBus.end_message.Goals as goal

abbrev bus : goal.After-self-4-1 → BusState
bus c = bus_of c.self.inside.devices.items c.self.inside.connected c.self.inside.atn c.self.inside.ack c.self.inside.asked

shows : (c : goal.After-self-4-1) → is_message_out (link_phase (link_on (bus c))) ≡ true
shows c =
    ap (λ (l : ConnectionState). is_message_out (link_phase l)) (link-is (bus c) c.in-Some.id c.in-Some.is)
    ∙ ap (λ (d : DeviceState). is_message_out (link_phase d.target.link)) (sym (here-is (vec_len c.self.inside.devices) (bus c) c.in-Some.id c.index.result.now c.self.invariant c.in-Some.is c.index.ensures))
    ∙ sym (c.is_message_out.ensures ∙ ap is_message_out c.shown.ensures)
    ∙ c.if-not-is_message_out.false

changed : (c : goal.After-self-4-1) → bus_of (slice_set c.self.inside.devices.items c.in-Some.id c.end_message.new.self) c.kept_if-self-inside.result (c.self.inside.atn && c.connected-bound.result) (c.self.inside.ack && c.connected-bound.result) c.self.inside.asked
    ≡ becomes (bus c) c.in-Some.id (device_messaged (device_at (bus c) c.in-Some.id))
changed c =
    changed-is (vec_len c.self.inside.devices) (bus c) c.in-Some.id c.end_message.new.self c.index-2.result.now c.connected-bound.result c.kept_if-self-inside.result c.self.invariant c.in-Some.is c.index-2.ensures c.connected-bound.ensures c.kept_if-self-inside.ensures
    ∙ ap (λ (d : DeviceState). becomes (bus c) c.in-Some.id d) (c.end_message.ensures ∙ ap device_messaged (here-is (vec_len c.self.inside.devices) (bus c) c.in-Some.id c.index_mut.result.now c.self.invariant c.in-Some.is c.index_mut.ensures.value))

pub invariant_of-self : goal.invariant_of-self
invariant_of-self c = subst (IsHeldBus (vec_len c.self.inside.devices)) (sym (changed c)) (heard-held (vec_len c.self.inside.devices) (bus c) c.in-Some.id c.self.invariant c.in-Some.is (shows c))

pub returns : goal.returns
returns c = changed c ∙ messaged-is (bus c) c.in-Some.id c.in-Some.is (shows c) ∙ ap (λ (b : BusState). messaged (is_message_out (link_phase (link_on b))) b.connected b) c.self.view_is
