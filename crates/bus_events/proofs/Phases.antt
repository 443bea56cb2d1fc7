-- Phase, Shown and Leave.
use Rattle.std.proofs.Common.{◌≡◌, ℕ, Bool, true, false, refl, ap, ◌∙◌, Option, Some, None, is_none}
use Rattle.std.specs.Prelude.{option_and_then}
use Rattle.scsi_words.specs.declared.phases.kinds.Phase.{Phase as BusPhase}
use Rattle.target_law.specs.declared.moves.Move.{Move}
use Rattle.target_law.specs.declared.task_phase.TaskPhase.TheVariants.{ToChoose}
use Rattle.target_law.specs.Bytes.{Connection, phase_of}
use Rattle.target_law.specs.Target.{LogicalUnit, TaskConnected, unit_at}
use Rattle.target_law.specs.Calls.{is_free, link_phase, target_acted}
use Rattle.target_law.specs.Devices.{DeviceState}
use Rattle.bus_law.specs.Bus.{BusState, device_at, free_if, with_device, becomes}
use Rattle.bus_law.specs.Choices.{named_by, acts, chooses, left_by, left_where, turned_by, turned, after_turn, phase_after}
use Rattle.bus_events.specs.Targets.{targets, HasTask, HasRoom}
use Rattle.bus_events.specs.Laws.{PhaseMakes, ShownMakes, LeaveMakes}
use Rattle.bus_events.proofs.Devices.{device-becomes, same-target, roomy}

-- a device whose task shows a phase has no turn
shown-turned : (b : BusState) (word id : ℕ) (c : Connection) (p : BusPhase) → HasTask b id c → phase_of c.shows ≡ Some p → turned b.atn word (device_at b id) ≡ device_at b id
shown-turned b word id c p h s = ap (λ o. turned_by o b.atn word (device_at b id)) (ap link_phase h.link ∙ s)

turn-is : (b : BusState) (word id : ℕ) (c : Connection) → HasTask b id c → after_turn b.connected word b ≡ becomes b id (turned b.atn word (device_at b id))
turn-is b word id c h = ap (λ o. after_turn o word b) h.connected

stays-turned : (b : BusState) (word id : ℕ) (c : Connection) (p : BusPhase) → HasTask b id c → phase_of c.shows ≡ Some p → targets (after_turn b.connected word b) ≡ targets b
stays-turned b word id c p h s =
    ap targets (turn-is b word id c h) ∙ ap (λ d. targets (becomes b id d)) (shown-turned b word id c p h s) ∙ device-becomes b id (device_at b id) h.stands ∙ same-target (targets b) id

-- one that is to choose has its turn
choice-turned : (b : BusState) (word id : ℕ) (c : Connection) (atn : Bool) → HasTask b id c → c.shows ≡ ToChoose → b.atn ≡ atn → turned b.atn word (device_at b id) ≡ left_where (chooses (TaskConnected c) atn word (device_at b id))
choice-turned b word id c atn h s a =
    ap (λ o. turned_by o b.atn word (device_at b id)) (ap link_phase h.link ∙ ap phase_of s)
    ∙ ap (λ z. left_where (chooses (device_at b id).target.link z word (device_at b id))) a
    ∙ ap (λ l. left_where (chooses l atn word (device_at b id))) h.link

-- the target with its move, which shows a phase
left-shown : (o : Option BusPhase) (d : DeviceState) (p : BusPhase) → Some p ≡ link_phase (left_by o d).target.link → left_by o d ≡ d
left-shown None d p e = cc
left-shown (Some q) d p e = refl

acts-turned : (b : BusState) (word id : ℕ) (c : Connection) (u : LogicalUnit) (m : Move) → HasTask b id c → c.shows ≡ ToChoose → b.atn ≡ false → unit_at (targets b id).units c.lun ≡ Some u → named_by u c word ≡ Some m
    → HasRoom b id (target_acted (targets b id) m) → turned b.atn word (device_at b id) ≡ left_where (record { target = target_acted (targets b id) m; rooms = (device_at b id).rooms })
acts-turned b word id c u m h s a there name room =
    choice-turned b word id c false h s a
    ∙ ap (λ o. left_where (acts (option_and_then (λ v. named_by v c word) o) (device_at b id))) there
    ∙ ap (λ o. left_where (acts o (device_at b id))) name
    ∙ ap left_where (roomy (device_at b id) (target_acted (targets b id) m) room)

pub phase-makes : PhaseMakes
phase-makes = record {
  stays = λ old new word shown id c p x h s. (
    ap targets x.2.1 ∙ stays-turned old word id c p h s,
    x.2.0 ∙ ap (λ o. phase_after o word old) h.connected ∙ ap (λ d. link_phase d.target.link) (shown-turned old word id c p h s) ∙ ap link_phase h.link ∙ s,
  );
  hears = λ old new word shown id c x h s a.
      ap targets x.2.1 ∙ ap targets (turn-is old word id c h) ∙ ap (λ d. targets (becomes old id d)) (choice-turned old word id c true h s a)
      ∙ device-becomes old id (left_where (chooses (TaskConnected c) true word (device_at old id))) h.stands;
  acts = λ old new word p id c u m x h s a there name room.
      let d : DeviceState = record { target = target_acted (targets old id) m; rooms = (device_at old id).rooms } in
      let t = acts-turned old word id c u m h s a there name room in
      let e : Some p ≡ link_phase (left_where d).target.link = x.2.0 ∙ ap (λ o. phase_after o word old) h.connected ∙ ap (λ y. link_phase y.target.link) t in
      let l : left_where d ≡ d = left-shown (link_phase d.target.link) d p e in
      ap targets x.2.1 ∙ ap targets (turn-is old word id c h) ∙ ap (λ y. targets (becomes old id y)) (t ∙ l) ∙ device-becomes old id d h.stands;
}

pub shown-makes : ShownMakes
shown-makes old new shown x = x.2.1

pub leave-makes : LeaveMakes
leave-makes = record {
  free = λ old new word gone x e. (
    x.2.1 ∙ ap (λ o. after_turn o word old) e,
    x.2.0 ∙ ap (λ o. is_none (after_turn o word old).connected) e ∙ ap is_none e,
  );
  stays = λ old new word gone id c p x h s. (
    ap targets x.2.1 ∙ stays-turned old word id c p h s,
    x.2.0 ∙ ap (λ y. is_none y.connected) (turn-is old word id c h ∙ ap (λ d. becomes old id d) (shown-turned old word id c p h s))
        ∙ ap (λ l. is_none (free_if (is_free l) (with_device old id (device_at old id))).connected) h.link ∙ ap is_none h.connected,
  );
}
