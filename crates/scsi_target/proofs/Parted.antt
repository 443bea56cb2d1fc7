-- What a device is after a call that made one unit and the link.
use Rattle.std.proofs.Common.{◌≡◌, ◌≢◌, ℕ, suc, ◌≤◌, ◌<◌, Bool, true, false, List, [], ◌∷◌, refl, ap, arith, sym, ◌∙◌, Option, Some, None, nat_le, nat_eq, ◌&&◌, length, subst, slice_set, slice_index_or, map, if◌then◌else◌}
use Rattle.std.specs.Prelude.{slice_get}
use Rattle.std.proofs.lemmas.List.{length-map}
use Rattle.std.proofs.lemmas.Bool.Decides.{nat_tests}
use Rattle.target_law.specs.Bytes.{Connection}
use Rattle.target_law.specs.Target.{LogicalUnit, ConnectionState, BusFree, Target, on_unit, unit_at, with_unit}
use Rattle.unit_tasks.specs.Units.{unit_of}
use Rattle.unit_tasks.specs.declared.queued.QueuedUnit.{QueuedUnit}
use Rattle.target_law.specs.Devices.{DeviceState, lie_within, where_room}
use Rattle.scsi_target.specs.Slots.{slot_of, room_of, At}
use Rattle.scsi_target.specs.Views.{busy, link_of, device_of, IsLinked, IsDevice}
use Rattle.scsi_target.specs.declared.connection_state.ConnectionState.{ConnectionState as HeldState}
use Rattle.scsi_target.specs.declared.connection_state.ConnectionState.TheVariants as held
use Rattle.scsi_target.specs.declared.task_exit.TaskExit.{TaskExit}
use Rattle.scsi_target.specs.TaskExits.{IsOnlyHere, IsMade, unit_by, parts_by, target_by}
use Rattle.scsi_target.proofs.Places.{unit_there, units_with, units_stay, rooms_stay, room_there, within, place_set, is_unit}
use Rattle.target_law.proofs.Rooms.{lie_within-set, where_true, where_false}
use Rattle.scsi_target.proofs.Devices.{device_set}

-- the unit that was read in the place of a connected task
pub here : (slots : List (Option QueuedUnit)) (lun place : ℕ) (P : QueuedUnit → Type 0) (r : QueuedUnit) (o : Option QueuedUnit) → At slots lun P → place ≡ lun → o ≡ slice_index_or slots place o → o ≡ Some r
    → (slice_get slots lun ≡ Some (Some r)) × P r
here slots lun place P r o a e h i =
    let same : a.0 ≡ r = is_unit slots lun a.0 r o a.1 (subst (λ x. o ≡ slice_index_or slots x o) e h) i in
    (a.1 ∙ ap (λ (q : QueuedUnit). Some (Some q)) same, subst P same a.2)

not_busy : (a k : ℕ) → k ≢ a → ◌≡◌ {A = ℕ} (if nat_eq a k then 1 else 0) 0
not_busy a k d = grind (arith, nat_tests)

pub busy_other : (lun k : ℕ) (q : QueuedUnit) (to : HeldState) → IsOnlyHere lun q to → k ≢ lun → busy to k ≡ 0
busy_other lun k q held.BusFree o d = refl
busy_other lun k q (held.Selected heard) o d = absurd o
busy_other lun k q (held.TakingCommand n block) o d = absurd o
busy_other lun k q (held.TaskConnected c) o d = not_busy c.lun k (λ e. d (e ∙ o.0))
busy_other lun k q (held.RogueConnected s n) o d = absurd o

pub linked_here : (slots : List (Option QueuedUnit)) (lun : ℕ) (q : QueuedUnit) (to : HeldState) → lun < length slots → IsOnlyHere lun q to → IsLinked to (slice_set slots lun (Some q)) false
linked_here slots lun q held.BusFree l o = tt
linked_here slots lun q (held.Selected heard) l o = absurd o
linked_here slots lun q (held.TakingCommand n block) l o = absurd o
linked_here slots lun q (held.TaskConnected c) l o = (q, subst (λ x. slice_get (slice_set slots lun (Some q)) x ≡ Some (Some q)) (sym o.0) (place_set slots lun q l), o.1)
linked_here slots lun q (held.RogueConnected s n) l o = absurd o

-- the device holds on
pub made_device : (count : ℕ) (slots : List (Option QueuedUnit)) (c : Connection) (old new : QueuedUnit) (to : HeldState) (u : LogicalUnit) (l : ConnectionState) → IsDevice count slots (held.TaskConnected c) false
    → slice_get slots c.lun ≡ Some (Some old) → IsMade c.lun old new (held.TaskConnected c) to u l → IsDevice count (slice_set slots c.lun (Some new)) to false
made_device count slots c old new to u l i e m =
    let inside = within slots c.lun old e in
    device_set count slots (held.TaskConnected c) to false c.lun new i inside m.slot (λ k d. busy_other c.lun k new to m.only d ∙ sym (not_busy c.lun k d)) (linked_here slots c.lun new to inside m.only)

-- each log of a device lies within its room
both_true : (a b : Bool) → a ≡ true → b ≡ true → (a && b) ≡ true
both_true true true e f = refl
both_true true false e f = cc
both_true false b e f = cc

le_true : (n m : ℕ) → n ≤ m → nat_le n m ≡ true
le_true n m l = grind (arith, nat_tests)

all_lie : (slots : List (Option QueuedUnit)) → ((k : ℕ) (q : QueuedUnit) → slice_get slots k ≡ Some (Some q) → length q.core.log.entries ≤ q.core.log.room)
    → lie_within (map slot_of slots) (map room_of slots) ≡ true
unfolding lie_within
all_lie [] f = refl
all_lie (None ∷ slots) f = all_lie slots (λ k q e. f (suc k) q e)
all_lie (Some x ∷ slots) f = both_true (nat_le (length x.core.log.entries) x.core.log.room) _ (le_true _ _ (f 0 x refl)) (all_lie slots (λ k q e. f (suc k) q e))

pub device_lies : (count : ℕ) (slots : List (Option QueuedUnit)) (link : HeldState) (breaks : Bool) → IsDevice count slots link breaks → lie_within (map slot_of slots) (map room_of slots) ≡ true
device_lies count slots link breaks i = all_lie slots (λ k q e. (i.slots_are k q e).log)

abbrev state : List (Option LogicalUnit) → ConnectionState → List ℕ → DeviceState
state us l rs = record { target = record { units = us; link = l }; rooms = rs }

pub state_same : (us vs : List (Option LogicalUnit)) (l m : ConnectionState) (rs ss : List ℕ) → us ≡ vs → l ≡ m → rs ≡ ss
    → state us l rs ≡ state vs m ss
state_same us vs l m rs ss e f g = cc

-- whether a log has room decides of the whole device
pub lie_by : (slots : List (Option QueuedUnit)) (lun : ℕ) (old : QueuedUnit) (u : LogicalUnit) → lie_within (map slot_of slots) (map room_of slots) ≡ true → slice_get slots lun ≡ Some (Some old)
    → lie_within (with_unit (map slot_of slots) lun u) (map room_of slots) ≡ nat_le (length u.log) old.core.log.room
unfolding with_unit
lie_by slots lun old u l e =
    let inside : lun < length slots = within slots lun old e in
    lie_within-set (map slot_of slots) (map room_of slots) lun (Some u) l (subst (λ n. lun < n) (sym (length-map slots slot_of)) inside) (subst (λ n. lun < n) (sym (length-map slots room_of)) inside)
    ∙ ap (λ n. nat_le (length u.log) n) (room_there slots lun old e)

state_by : (b : Bool) (slots : List (Option QueuedUnit)) (lun : ℕ) (old new : QueuedUnit) (from to : HeldState) (u : LogicalUnit) (l : ConnectionState) → slice_get slots lun ≡ Some (Some old)
    → lie_within (with_unit (map slot_of slots) lun u) (map room_of slots) ≡ b → unit_of new ≡ (if b then u else unit_of old) → link_of to ≡ (if b then l else link_of from)
    → new.core.log.room ≡ old.core.log.room
    → device_of (slice_set slots lun (Some new)) to ≡ where_room (device_of slots from) (record { units = with_unit (map slot_of slots) lun u; link = l })
state_by true slots lun old new from to u l e w f g r =
    state_same _ _ _ _ _ _ (sym (units_with slots lun new) ∙ ap (λ (v : LogicalUnit). with_unit (map slot_of slots) lun v) f) g (rooms_stay slots lun old new e r)
    ∙ sym (where_true (device_of slots from) (record { units = with_unit (map slot_of slots) lun u; link = l }) w)
state_by false slots lun old new from to u l e w f g r =
    state_same _ _ _ _ _ _ (units_stay slots lun old new e f) g (rooms_stay slots lun old new e r)
    ∙ sym (where_false (device_of slots from) (record { units = with_unit (map slot_of slots) lun u; link = l }) w)

pub made_state : (count : ℕ) (slots : List (Option QueuedUnit)) (breaks : Bool) (lun : ℕ) (old new : QueuedUnit) (from to : HeldState) (u : LogicalUnit) (l : ConnectionState) → IsDevice count slots from breaks
    → slice_get slots lun ≡ Some (Some old) → IsMade lun old new from to u l
    → device_of (slice_set slots lun (Some new)) to ≡ where_room (device_of slots from) (record { units = with_unit (map slot_of slots) lun u; link = l })
made_state count slots breaks lun old new from to u l i e m =
    state_by (nat_le (length u.log) old.core.log.room) slots lun old new from to u l e (lie_by slots lun old u (device_lies count slots from breaks i) e) m.unit m.link m.room

-- what is done at the unit of a LUN that is there
pub on_there : (slots : List (Option QueuedUnit)) (lun : ℕ) (q : QueuedUnit) (f : LogicalUnit → Target) (t : Target) → slice_get slots lun ≡ Some (Some q) → on_unit (unit_at (map slot_of slots) lun) f t ≡ f (unit_of q)
on_there slots lun q f t e = ap (λ o. on_unit o f t) (unit_there slots lun q e)

pub parted_state : (count : ℕ) (slots : List (Option QueuedUnit)) (c : Connection) (how : TaskExit) (old new : QueuedUnit) (to : HeldState) → IsDevice count slots (held.TaskConnected c) false
    → slice_get slots c.lun ≡ Some (Some old) → IsMade c.lun old new (held.TaskConnected c) to (unit_by how (unit_of old) c) BusFree
    → device_of (slice_set slots c.lun (Some new)) to ≡ where_room (device_of slots (held.TaskConnected c)) (target_by how (device_of slots (held.TaskConnected c)).target c)
parted_state count slots c how old new to i e m =
    let t : Target = (device_of slots (held.TaskConnected c)).target in
    made_state count slots false c.lun old new (held.TaskConnected c) to (unit_by how (unit_of old) c) BusFree i e m
    ∙ sym (ap (λ (x : Target). where_room (device_of slots (held.TaskConnected c)) x) (on_there slots c.lun old (parts_by how t c) t e))
