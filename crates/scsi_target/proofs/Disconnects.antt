-- What a target is that leaves the bus, its task away as by DISCONNECT.
use Rattle.std.proofs.Common.{◌≡◌, ◌≤◌, ◌∙◌, ◌==◌, ℕ, Bool, true, false, List, ◌∷◌, [], Option, Some, None, refl, sym, ap, subst, map, length, nat_le, arith, if◌then◌else◌, vec_len}
use Rattle.std.proofs.lemmas.Bool.Decides.{nat_tests}
use Rattle.target_law.specs.declared.task_phase.TaskPhase.TheVariants.{MessageOut}
use Rattle.target_law.specs.Session.{Task}
use Rattle.target_law.specs.Sound.{HaveDistinctTags}
use Rattle.target_law.specs.Bytes.{Connection}
use Rattle.target_law.specs.Target.{LogicalUnit, ConnectionState, BusFree, Selected, TakingCommand, TaskConnected, RogueConnected, Target, on_unit, at_lun, unit_at, with_unit, unit_left, leaves, linked, parted}
use Rattle.target_law.specs.Calls.{asked_by, target_messaged}
use Rattle.target_law.specs.Devices.{DeviceState, lie_within, where_room}
use Rattle.target_law.proofs.Rooms.{where_true}
use Rattle.target_law.proofs.TagLists.{are_distinct, apart-of}
use Rattle.target_law.proofs.Tags.{Dist, dist-of, tags-of, tags_stay}
use Rattle.unit_tasks.specs.declared.queued.QueuedUnit.{QueuedUnit}
use Rattle.unit_tasks.specs.Units.{unit_of}
use Rattle.scsi_target.specs.Slots.{slot_of, room_of}
use Rattle.scsi_target.specs.Views.{device_of, link_of, IsDevice}
use Rattle.scsi_target.specs.Resettings.{HasNoTask}
use Rattle.scsi_target.specs.TaskExits.{target_by}
use Rattle.scsi_target.specs.declared.task_exit.TaskExit.TheVariants.{Disconnected}
use Rattle.scsi_target.specs.declared.connection_state.ConnectionState.{ConnectionState as HeldState}
use Rattle.scsi_target.specs.declared.connection_state.ConnectionState.TheVariants as held
use Rattle.scsi_target.proofs.Parted.{device_lies, lie_by, on_there}
use Rattle.scsi_target.proofs.Resets.{none_busy}
use Rattle.scsi_target.proofs.Devices.{device_relinked}
use Rattle.scsi_target.proofs.Tells.{told_parts}

-- ---- the tags

rest : (b : Bool) (k : Task) (ks : List Task) → are_distinct (if b then k ∷ ks else ks) ≡ true → are_distinct ks ≡ true
rest true k ks e = (apart-of k ks e).rest
rest false k ks e = e

freed : (us : List (Option LogicalUnit)) (l : ConnectionState) → Dist us l → Dist us BusFree
freed us BusFree h lun u e = h lun u e
freed us (Selected heard) h lun u e = h lun u e
freed us (TakingCommand n taken) h lun u e = h lun u e
freed us (TaskConnected c) h lun u e = rest (c.lun == lun) c.task u.tasks (h lun u e)
freed us (RogueConnected s n) h lun u e = h lun u e

freed_tags : (t : Target) → HaveDistinctTags t → HaveDistinctTags (linked t BusFree)
freed_tags t h = tags-of (linked t BusFree) (freed t.units t.link (dist-of t h))

abbrev asks : Connection → Connection
asks c = record c { heard = []; shows = MessageOut }

abbrev asked : Target → Connection → Target
asked t c = record { units = t.units; link = TaskConnected (asks c) }

same : (o : Option LogicalUnit) (t : Target) (c : Connection) → linked (on_unit o (leaves (asked t c) (asks c)) (asked t c)) BusFree ≡ linked (on_unit o (leaves t c) t) BusFree
same None t c = refl
same (Some u) t c = refl

-- the task goes as one that is sent a message which frees the bus
with_task : (t : Target) (c : Connection) → t.link ≡ TaskConnected c → HaveDistinctTags t → HaveDistinctTags (linked (parted (TaskConnected c) t) BusFree)
with_task t c e h =
    let asking : HaveDistinctTags (asked t c) = subst (λ (l : ConnectionState). HaveDistinctTags (linked t (asked_by l))) e (tags_stay.asked t h) in
    let gone : target_messaged (asked t c) ≡ at_lun (asked t c) c.lun (leaves (asked t c) (asks c)) = told_parts t.units (asks c) (λ f. absurd cc) in
    subst HaveDistinctTags (ap (λ (x : Target). linked x BusFree) gone ∙ same (unit_at t.units c.lun) t c) (freed_tags (target_messaged (asked t c)) (tags_stay.messaged (asked t c) asking))

tags_by : (l : ConnectionState) (t : Target) → t.link ≡ l → HaveDistinctTags t → HaveDistinctTags (linked (parted l t) BusFree)
tags_by BusFree t e h = freed_tags t h
tags_by (Selected heard) t e h = freed_tags t h
tags_by (TakingCommand n taken) t e h = freed_tags t h
tags_by (TaskConnected c) t e h = with_task t c e h
tags_by (RogueConnected s n) t e h = freed_tags t h

pub parted_tags : (t : Target) → HaveDistinctTags t → HaveDistinctTags (linked (parted t.link t) BusFree)
parted_tags t h = tags_by t.link t refl h

-- ---- the state

le_true : (n m : ℕ) → n ≤ m → nat_le n m ≡ true
le_true n m l = grind (arith, nat_tests)

-- no log gets an entry
lies : (count : ℕ) (slots : List (Option QueuedUnit)) (c : Connection) (i : IsDevice count slots (held.TaskConnected c) false)
    → lie_within (with_unit (map slot_of slots) c.lun (unit_left (unit_of i.linked.0) c.task)) (map room_of slots) ≡ true
lies count slots c i =
    lie_by slots c.lun i.linked.0 (unit_left (unit_of i.linked.0) c.task) (device_lies count slots (held.TaskConnected c) false i) i.linked.1
    ∙ le_true _ _ (i.slots_are c.lun i.linked.0 i.linked.1).log

pub parted_is : (count : ℕ) (slots news : List (Option QueuedUnit)) (c : Connection) (to : HeldState) → IsDevice count slots (held.TaskConnected c) false
    → device_of news to ≡ where_room (device_of slots (held.TaskConnected c)) (target_by Disconnected (device_of slots (held.TaskConnected c)).target c)
    → device_of news to ≡ record { target = linked (parted (TaskConnected c) (device_of slots (held.TaskConnected c)).target) BusFree; rooms = map room_of slots }
parted_is count slots news c to i h =
    let t : Target = (device_of slots (held.TaskConnected c)).target in
    let made : Target = record { units = with_unit (map slot_of slots) c.lun (unit_left (unit_of i.linked.0) c.task); link = BusFree } in
    let left : at_lun t c.lun (leaves t c) ≡ made = on_there slots c.lun i.linked.0 (leaves t c) t i.linked.1 in
    h ∙ ap (λ (x : Target). where_room (device_of slots (held.TaskConnected c)) x) left ∙ where_true (device_of slots (held.TaskConnected c)) made (lies count slots c i)
    ∙ sym (ap (λ (x : Target). record { target = linked x BusFree; rooms = map room_of slots }) left)

pub idle_is : (slots : List (Option QueuedUnit)) (link : HeldState) → HasNoTask link
    → device_of slots held.BusFree ≡ record { target = linked (parted (link_of link) (device_of slots link).target) BusFree; rooms = map room_of slots }
idle_is slots held.BusFree h = refl
idle_is slots (held.Selected heard) h = refl
idle_is slots (held.TakingCommand n block) h = refl
idle_is slots (held.TaskConnected c) h = absurd h
idle_is slots (held.RogueConnected s n) h = refl

pub idle_device : (count : ℕ) (slots : List (Option QueuedUnit)) (link : HeldState) (breaks : Bool) → HasNoTask link → IsDevice count slots link breaks → IsDevice count slots held.BusFree breaks
idle_device count slots link breaks h i = device_relinked count slots link held.BusFree breaks i (λ k. sym (none_busy link h k)) tt
