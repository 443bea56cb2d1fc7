-- SetAtn and ClearAck.
use Rattle.std.proofs.Common.{◌≡◌, ℕ, Bool, true, ap, ◌∙◌, Some}
use Rattle.unit_law.specs.Log.{with_at}
use Rattle.target_law.specs.declared.task_phase.TargetMessage.{TargetMessage}
use Rattle.target_law.specs.declared.task_phase.TaskPhase.TheVariants.{MessageIn}
use Rattle.target_law.specs.Bytes.{Connection, phase_of}
use Rattle.target_law.specs.Target.{TaskConnected, Target}
use Rattle.target_law.specs.Calls.{link_phase, message_of, told, messaged_by, target_messaged, message_acked, shown_acked, acked_by, target_acked}
use Rattle.target_law.specs.Devices.{DeviceState, lie_within}
use Rattle.bus_law.specs.Bus.{BusState, device_at, link_on}
use Rattle.bus_law.specs.Attention.{is_message_out, device_messaged, messaged, device_acked, acked, after_ack}
use Rattle.bus_events.specs.Targets.{targets}
use Rattle.bus_events.specs.Laws.{SetAtnMakes, ClearAckMakes}
use Rattle.bus_events.proofs.Devices.{device-becomes, roomy, phase-on}

told-is : (t : Target) (c : Connection) → t.link ≡ TaskConnected c → target_messaged t ≡ told (message_of c.heard) t c
unfolding target_messaged
told-is t c e = ap (λ l. messaged_by l t) e

acked-is : (t : Target) (c : Connection) (n : TargetMessage) (sent : Bool) → t.link ≡ TaskConnected c → c.shows ≡ MessageIn n sent → target_acked t ≡ message_acked n t c
unfolding target_acked
acked-is t c n sent e s = ap (λ l. acked_by l t) e ∙ ap (λ p. shown_acked p t c) s

-- the device makes this of its target, where there is room
made : (b : BusState) (id : ℕ) (d : DeviceState) (s t : Target) → d ≡ record { target = s; rooms = (device_at b id).rooms } → s ≡ t → with_at (targets b) id d.target ≡ with_at (targets b) id t
made b id d s t e f = ap (λ (y : DeviceState). with_at (targets b) id y.target) e ∙ ap (with_at (targets b) id) f

pub set-atn-makes : SetAtnMakes
set-atn-makes = record {
  asserts = λ old new x. ap targets x.2;
  tells = λ old new id c x h s room.
      let t = targets old id in
      let e = told-is t c h.link in
      let open_phase : is_message_out (link_phase (link_on old)) ≡ true = ap is_message_out (phase-on old id (TaskConnected c) h.connected h.link ∙ ap phase_of s) in
      ap targets x.2 ∙ ap (λ o. targets (messaged (is_message_out (link_phase (link_on old))) o old)) h.connected ∙ ap (λ z. targets (messaged z (Some id) old)) open_phase
      ∙ device-becomes old id (device_messaged (device_at old id)) h.stands
      ∙ made old id (device_messaged (device_at old id)) (target_messaged t) (told (message_of c.heard) t c)
      (roomy (device_at old id) (target_messaged t) (ap (λ (z : Target). lie_within z.units (device_at old id).rooms) e ∙ room)) e;
}

pub clear-ack-makes : ClearAckMakes
clear-ack-makes old new id c n sent x h ack s room =
    let t = targets old id in
    let e = acked-is t c n sent h.link s in
    ap targets x.2 ∙ ap (λ a. targets (after_ack a old)) ack ∙ ap (λ o. targets (acked o old)) h.connected ∙ device-becomes old id (device_acked (device_at old id)) h.stands
    ∙ made old id (device_acked (device_at old id)) (target_acked t) (message_acked n t c)
    (roomy (device_at old id) (target_acked t) (ap (λ (z : Target). lie_within z.units (device_at old id).rooms) e ∙ room)) e
