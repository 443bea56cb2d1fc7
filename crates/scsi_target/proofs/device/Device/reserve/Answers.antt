use Rattle.std.proofs.Common.{◌≡◌, ◌≤◌, ◌<◌, ◌+◌, ℕ, max, Some, subst, sym, ap, ◌∙◌, refl, arith, length, OnOk, OnErr, Result, Ok, Err, List, Option, map, slice_set, slice_index_or}
use Rattle.std.specs.Prelude.{slice_get}
use Rattle.target_law.specs.Lawful.{IsThere}
use Rattle.target_law.specs.Target.{LogicalUnit, unit_at}
use Rattle.unit_tasks.specs.declared.queued.QueuedUnit.{QueuedUnit}
use Rattle.unit_tasks.specs.Units.{unit_of}
use Rattle.unit_log.specs.LogState.{LogState}
use Rattle.scsi_target.specs.Slots.{room_of, slot_of}
use Rattle.scsi_target.specs.Views.{IsSlot, device_of, link_of}
use Rattle.target_law.specs.Devices.{DeviceState, device_reserved}
use Rattle.scsi_target.proofs.Places.{room_there, there_in, back_in, read_unit, not_none, in_range, within, units_stay, rooms_stay, reserved_is}
use Rattle.scsi_target.proofs.Devices.{device_set, linked_by, connected_log}
use Rattle.scsi_target.proofs.DistinctTags.{same_units}
use Rattle.scsi_target.proofs.device.Device.reserve.Goals as goal

pub index_mut-requires : goal.index_mut-requires
index_mut-requires c = let t = there_in _ _ _ c.self.view_is c.args.lun _ c.requires in in_range _ _ _ _ c.args.lun t.0 c.self.invariant.device t.1

pub unreachable-requires : goal.unreachable-requires
unreachable-requires c = let t = there_in _ _ _ c.self.view_is c.args.lun _ c.requires in not_none _ c.args.lun t.0 _ t.1 c.index_mut.ensures.value c.in-None.is

place : (c : goal.After-self-1) → slice_get c.self.inside.units.items c.args.lun ≡ Some (Some c.in-Some.unit)
place c = read_unit _ _ _ c.self.view_is c.args.lun _ c.in-Some.unit _ c.requires c.index_mut.ensures.value c.in-Some.is

abbrev after : goal.After-self-1 → QueuedUnit
after c = record { rig = c.in-Some.unit.rig; core = record { lun = c.in-Some.unit.core.lun; log = c.reserve.new.self }; tasks = c.in-Some.unit.tasks }

slot_after : (c : goal.After-self-1) → IsSlot c.self.inside.rogue c.self.inside.link c.args.lun (after c)
slot_after c = let i = c.self.invariant.device.slots_are c.args.lun c.in-Some.unit (place c) in record {
  lun = i.lun;
  unit = i.unit;
  rogue = i.rogue;
  depth = i.depth;
  places = i.places;
  waiting = i.waiting;
  log = let a = i.log in let b = c.reserve.ensures.room in let e = ap length c.reserve.ensures.entries in omega arith;
}

-- the log has the same entries, and so the unit is the same
same_unit : (c : goal.After-self-1) → unit_of (after c) ≡ unit_of c.in-Some.unit
same_unit c = ap (λ log. record { rig = c.in-Some.unit.rig; plain = c.in-Some.unit.core.lun; log = log; tasks = c.in-Some.unit.tasks.tasks }) c.reserve.ensures.entries

pub invariant_of-self : goal.invariant_of-self
invariant_of-self c = record {
  device =
      device_set _ _ _ _ _ c.args.lun (after c) c.self.invariant.device (within _ c.args.lun c.in-Some.unit (place c)) (slot_after c) (λ k d. refl)
      (linked_by _ _ _ c.args.lun c.in-Some.unit (after c) (place c) c.self.invariant.device.linked (λ x h. connected_log c.self.inside.rogue x c.in-Some.unit c.reserve.new.self c.reserve.ensures.entries h));
  tags = same_units c.self.inside.units.items _ c.self.inside.link (units_stay _ c.args.lun c.in-Some.unit (after c) (place c) (same_unit c)) c.self.invariant.tags;
}

-- the room of the unit's log before
old_room : (c : goal.After-self-1) → c.in-Some.unit.core.log.room ≡ slice_index_or c.args.self.now.rooms c.args.lun 0
old_room c = sym (room_there c.self.inside.units.items c.args.lun c.in-Some.unit (place c)) ∙ ap (λ (d : DeviceState). slice_index_or d.rooms c.args.lun 0) c.self.view_is

-- the unit's log has the same entries, and room for n more
reserved : (c : goal.After-self-1) → c.reserve.new.self.room ≡ max c.in-Some.unit.core.log.room (length c.in-Some.unit.core.log.entries + c.args.n)
    → device_of (slice_set c.self.inside.units.items c.args.lun (Some (after c))) c.self.inside.link ≡ device_reserved c.args.self.now c.args.lun c.args.n
reserved c h =
    reserved_is c.self.inside.units.items c.self.inside.link c.args.lun c.args.n c.in-Some.unit (after c) (place c) (same_unit c) h ∙ ap (λ (d : DeviceState). device_reserved d c.args.lun c.args.n) c.self.view_is

on_ok : {T E P Q : Type 0} (r : Result T E) → (P → Q) → OnOk r P → OnOk r Q
on_ok (Ok v) f h = f h
on_ok (Err e) f h = tt

pub returns-clause-ok : goal.returns-clause-ok
returns-clause-ok c = on_ok c.reserve.result (reserved c) c.reserve.ensures.exact

on_err : {T E P Q : Type 0} (r : Result T E) → (P → Q) → OnErr r P → OnErr r Q
on_err (Ok v) f h = tt
on_err (Err e) f h = f h

same_device : (c : goal.After-self-1) → c.reserve.new.self ≡ c.in-Some.unit.core.log → device_of (slice_set c.self.inside.units.items c.args.lun (Some (after c))) c.self.inside.link ≡ c.args.self.now
same_device c h =
    let same : after c ≡ c.in-Some.unit = ap (λ (log : LogState). record { rig = c.in-Some.unit.rig; core = record { lun = c.in-Some.unit.core.lun; log = log }; tasks = c.in-Some.unit.tasks }) h in
    ap (λ (q : QueuedUnit). device_of (slice_set c.self.inside.units.items c.args.lun (Some q)) c.self.inside.link) same
    ∙ ap (λ (us : List (Option LogicalUnit)). record { target = record { units = us; link = link_of c.self.inside.link }; rooms = map room_of (slice_set c.self.inside.units.items c.args.lun (Some c.in-Some.unit)) }) (units_stay _ c.args.lun c.in-Some.unit c.in-Some.unit (place c) refl)
    ∙ ap (λ (rs : List ℕ). record { target = record { units = map slot_of c.self.inside.units.items; link = link_of c.self.inside.link }; rooms = rs }) (rooms_stay _ c.args.lun c.in-Some.unit c.in-Some.unit (place c) refl)
    ∙ c.self.view_is

pub returns-clause-err : goal.returns-clause-err
returns-clause-err c = on_err c.reserve.result (same_device c) c.reserve.ensures.err

full_back : (c : goal.After-self-1) → c.in-Some.unit.core.log.room < length c.in-Some.unit.core.log.entries + c.args.n
    → IsThere (unit_at c.args.self.now.target.units c.args.lun) (λ u. slice_index_or c.args.self.now.rooms c.args.lun 0 < length u.log + c.args.n)
full_back c h = back_in _ _ _ c.self.view_is c.args.lun (λ (u : LogicalUnit). slice_index_or c.args.self.now.rooms c.args.lun 0 < length u.log + c.args.n) c.in-Some.unit (place c) (subst (λ room. room < length c.in-Some.unit.core.log.entries + c.args.n) (old_room c) h)

pub returns-clause-full : goal.returns-clause-full
returns-clause-full c = on_err c.reserve.result (full_back c) c.reserve.ensures.full
