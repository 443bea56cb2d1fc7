use Rattle.std.proofs.Common.{◌≡◌, ◌≤◌, ℕ, subst, sym, ap, ◌∙◌, refl, length, Some, slice_set, slice_index_or}
use Rattle.std.specs.Prelude.{slice_get}
use Rattle.target_law.specs.Lawful.{IsThere}
use Rattle.target_law.specs.Target.{LogicalUnit, unit_at}
use Rattle.target_law.specs.Devices.{DeviceState, room_at, device_lowered}
use Rattle.unit_tasks.specs.declared.queued.QueuedUnit.{QueuedUnit}
use Rattle.unit_tasks.specs.Units.{unit_of}
use Rattle.unit_log.specs.LogState.{LogState}
use Rattle.scsi_target.specs.Views.{IsSlot, device_of}
use Rattle.scsi_target.proofs.Places.{room_there, there_in, read_unit, is_unit, not_none, in_range, within, units_stay, lowered_is}
use Rattle.scsi_target.proofs.Devices.{device_set, linked_by, connected_log}
use Rattle.scsi_target.proofs.DistinctTags.{same_units}
use Rattle.scsi_target.proofs.device.Device.lower_room.Goals as goal

pub index_mut-requires : goal.index_mut-requires
index_mut-requires c = let t = there_in _ _ _ c.self.view_is c.args.lun _ c.requires in in_range _ _ _ _ c.args.lun t.0 c.self.invariant.device t.1

pub unreachable-requires : goal.unreachable-requires
unreachable-requires c = let t = there_in _ _ _ c.self.view_is c.args.lun _ c.requires in not_none _ c.args.lun t.0 _ t.1 c.index_mut.ensures.value c.in-None.is

-- the unit, and what the call asks of its log
here : (c : goal.After-lower_room-arg-1) → (length c.in-Some.unit.core.log.entries ≤ c.args.room) × (c.args.room ≤ c.in-Some.unit.core.log.room)
here c =
    let t = there_in _ _ _ c.self.view_is c.args.lun _ c.requires in
    let q : t.0 ≡ c.in-Some.unit = is_unit _ c.args.lun t.0 _ _ t.1 c.index_mut.ensures.value c.in-Some.is in
    let room : room_at c.args.self.now c.args.lun ≡ t.0.core.log.room = sym (ap (λ (d : DeviceState). slice_index_or d.rooms c.args.lun 0) c.self.view_is) ∙ room_there c.self.inside.units.items c.args.lun t.0 t.1 in
    (subst (λ (x : QueuedUnit). length x.core.log.entries ≤ c.args.room) q t.2.0, subst (λ (n : ℕ). c.args.room ≤ n) (room ∙ ap (λ (x : QueuedUnit). x.core.log.room) q) t.2.1)

pub lower_room-requires-clause-fits : goal.lower_room-requires-clause-fits
lower_room-requires-clause-fits c = (here c).0

pub lower_room-requires-clause-lower : goal.lower_room-requires-clause-lower
lower_room-requires-clause-lower c = (here c).1

place : (c : goal.After-self-1) → slice_get c.self.inside.units.items c.args.lun ≡ Some (Some c.in-Some.unit)
place c = read_unit _ _ _ c.self.view_is c.args.lun _ c.in-Some.unit _ c.requires c.index_mut.ensures.value c.in-Some.is

abbrev after : goal.After-self-1 → QueuedUnit
after c = record { rig = c.in-Some.unit.rig; core = record { lun = c.in-Some.unit.core.lun; log = c.lower_room.new.self }; tasks = c.in-Some.unit.tasks }

fits : (c : goal.After-self-1) → length c.in-Some.unit.core.log.entries ≤ c.args.room
fits c =
    let t = there_in _ _ _ c.self.view_is c.args.lun _ c.requires in
    subst (λ (x : QueuedUnit). length x.core.log.entries ≤ c.args.room) (is_unit _ c.args.lun t.0 _ _ t.1 c.index_mut.ensures.value c.in-Some.is) t.2.0

slot_after : (c : goal.After-self-1) → IsSlot c.self.inside.rogue c.self.inside.link c.args.lun (after c)
slot_after c = let i = c.self.invariant.device.slots_are c.args.lun c.in-Some.unit (place c) in record {
  lun = i.lun;
  unit = i.unit;
  rogue = i.rogue;
  depth = i.depth;
  places = i.places;
  waiting = i.waiting;
  log = subst (λ (log : LogState). length log.entries ≤ log.room) (sym c.lower_room.ensures) (fits c);
}

-- the log has the same entries, and so the unit is the same
same_unit : (c : goal.After-self-1) → unit_of (after c) ≡ unit_of c.in-Some.unit
same_unit c = ap (λ (log : LogState). record { rig = c.in-Some.unit.rig; plain = c.in-Some.unit.core.lun; log = log.entries; tasks = c.in-Some.unit.tasks.tasks }) c.lower_room.ensures

pub invariant_of-self : goal.invariant_of-self
invariant_of-self c = record {
  device =
      device_set _ _ _ _ _ c.args.lun (after c) c.self.invariant.device (within _ c.args.lun c.in-Some.unit (place c)) (slot_after c) (λ k d. refl)
      (linked_by _ _ _ c.args.lun c.in-Some.unit (after c) (place c) c.self.invariant.device.linked
      (λ x h. connected_log c.self.inside.rogue x c.in-Some.unit c.lower_room.new.self (ap (λ (log : LogState). log.entries) c.lower_room.ensures) h));
  tags = same_units c.self.inside.units.items _ c.self.inside.link (units_stay _ c.args.lun c.in-Some.unit (after c) (place c) (same_unit c)) c.self.invariant.tags;
}

pub returns : goal.returns
returns c =
    lowered_is c.self.inside.units.items c.self.inside.link c.args.lun c.args.room c.in-Some.unit (after c) (place c) (same_unit c) (ap (λ (log : LogState). log.room) c.lower_room.ensures)
    ∙ ap (λ (d : DeviceState). device_lowered d c.args.lun c.args.room) c.self.view_is
