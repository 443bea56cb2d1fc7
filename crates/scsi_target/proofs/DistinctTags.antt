-- No two tasks of a unit of a device have one tag.
use Rattle.std.proofs.Common.{◌≡◌, ℕ, List, ap, sym, subst, Option, map}
use Rattle.target_law.specs.Target.{LogicalUnit, ConnectionState, Target}
use Rattle.target_law.specs.Devices.{DeviceState, where_room}
use Rattle.target_law.specs.Sound.{HaveDistinctTags}
use Rattle.target_law.proofs.Tags.{tags_stay}
use Rattle.unit_tasks.specs.declared.queued.QueuedUnit.{QueuedUnit}
use Rattle.scsi_target.specs.Slots.{slot_of}
use Rattle.scsi_target.specs.Views.{link_of, device_of}
use Rattle.scsi_target.specs.declared.connection_state.ConnectionState.{ConnectionState as HeldState}

-- the state that is seen
pub seen : (d : DeviceState) (slots : List (Option QueuedUnit)) (link : HeldState) → device_of slots link ≡ d → HaveDistinctTags (device_of slots link).target → HaveDistinctTags d.target
seen d slots link v h = subst (λ (x : DeviceState). HaveDistinctTags x.target) v h

-- the state after a call
pub told : (d : DeviceState) (slots : List (Option QueuedUnit)) (link : HeldState) → device_of slots link ≡ d → HaveDistinctTags d.target → HaveDistinctTags (device_of slots link).target
told d slots link v h = subst (λ (x : DeviceState). HaveDistinctTags x.target) (sym v) h

-- the state after a call whose entries may not fit
pub told_where : (d : DeviceState) (t : Target) (slots : List (Option QueuedUnit)) (link : HeldState) → device_of slots link ≡ where_room d t → HaveDistinctTags d.target → HaveDistinctTags t
    → HaveDistinctTags (device_of slots link).target
told_where d t slots link v h i = told (where_room d t) slots link v (tags_stay.with_room d t h i)

-- the link alone has changed
pub relinked : (slots : List (Option QueuedUnit)) (link : HeldState) (l : ConnectionState) → link_of link ≡ l → HaveDistinctTags (record { units = map slot_of slots; link = l }) → HaveDistinctTags (device_of slots link).target
relinked slots link l e h = subst (λ (x : ConnectionState). HaveDistinctTags (record { units = map slot_of slots; link = x })) (sym e) h

-- the units alone have changed, and none of them for this
pub same_units : (slots news : List (Option QueuedUnit)) (link : HeldState) → map slot_of news ≡ map slot_of slots → HaveDistinctTags (device_of slots link).target → HaveDistinctTags (device_of news link).target
same_units slots news link e h = subst (λ (us : List (Option LogicalUnit)). HaveDistinctTags (record { units = us; link = link_of link })) (sym e) h
