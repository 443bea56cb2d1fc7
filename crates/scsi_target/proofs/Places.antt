-- The units of a device by their places: what is read of one place, and what one place changes.
use Rattle.std.specs.List.{list_any}
use Rattle.std.proofs.Common.{◌≡◌, ◌≢◌, ℕ, zero, suc, ◌≤◌, ◌<◌, Bool, ◌||◌, List, [], ◌∷◌, refl, ap, arith, sym, ◌∙◌, Option, Some, None, length, slice_set, slice_index_or, max, ◌+◌, map, option_map, subst, ◌⊎◌, inl, inr}
use Rattle.std.specs.Prelude.{slice_get}
use Rattle.std.proofs.lemmas.List.{map-set}
use Rattle.std.proofs.lemmas.Option.{slice_get-map, slice_get_within, get_or_from_slice_get, slice_get_read, slice_get_past}
use Rattle.std.proofs.Math.Seq.{map-set_same}
use Rattle.target_law.specs.Lawful.{IsThere}
use Rattle.target_law.specs.Rigs.{rig_of}
use Rattle.target_law.specs.Target.{LogicalUnit, flat, unit_at, with_unit, slot_reset, unit_reset}
use Rattle.unit_law.proofs.Views.{same_or_not}
use Rattle.unit_tasks.specs.declared.queued.QueuedUnit.{QueuedUnit}
use Rattle.unit_tasks.specs.Units.{unit_of}
use Rattle.unit_tasks.proofs.Drops.{length-unit_reset}
use Rattle.target_law.specs.Devices.{DeviceState, lie_within, reserved_for, device_reserved, device_lowered}
use Rattle.scsi_target.specs.Views.{link_of, device_of, IsDevice}
use Rattle.scsi_target.specs.declared.connection_state.ConnectionState.{ConnectionState as HeldState}
use Rattle.scsi_target.specs.Slots.{slot_of, room_of, At, slot_after, all_can_reset}

-- the unit of a LUN that is there
pub unit_there : (slots : List (Option QueuedUnit)) (lun : ℕ) (q : QueuedUnit) → slice_get slots lun ≡ Some (Some q) → unit_at (map slot_of slots) lun ≡ Some (unit_of q)
unfolding unit_at
unit_there slots lun q e = ap flat (slice_get-map slot_of slots lun ∙ ap (λ o. option_map slot_of o) e)

-- a unit's place after a call
pub units_with : (slots : List (Option QueuedUnit)) (lun : ℕ) (q : QueuedUnit) → with_unit (map slot_of slots) lun (unit_of q) ≡ map slot_of (slice_set slots lun (Some q))
unfolding with_unit
units_with slots lun q = sym (map-set slot_of slots lun (Some q))

pub units_stay : (slots : List (Option QueuedUnit)) (lun : ℕ) (old new : QueuedUnit) → slice_get slots lun ≡ Some (Some old) → unit_of new ≡ unit_of old
    → map slot_of (slice_set slots lun (Some new)) ≡ map slot_of slots
units_stay slots lun old new e r = map-set_same slot_of slots lun (Some new) None (ap Some r ∙ sym (ap slot_of (get_or_from_slice_get slots lun (Some old) None e)))

-- the rooms stay where that of the unit does
pub rooms_stay : (slots : List (Option QueuedUnit)) (lun : ℕ) (old new : QueuedUnit) → slice_get slots lun ≡ Some (Some old) → new.core.log.room ≡ old.core.log.room
    → map room_of (slice_set slots lun (Some new)) ≡ map room_of slots
rooms_stay slots lun old new e r = map-set_same room_of slots lun (Some new) None (r ∙ sym (ap room_of (get_or_from_slice_get slots lun (Some old) None e)))

-- the room of a unit's log by its LUN
pub room_there : (slots : List (Option QueuedUnit)) (lun : ℕ) (q : QueuedUnit) → slice_get slots lun ≡ Some (Some q) → slice_index_or (map room_of slots) lun 0 ≡ q.core.log.room
room_there slots lun q e = get_or_from_slice_get (map room_of slots) lun q.core.log.room 0 (slice_get-map room_of slots lun ∙ ap (λ o. option_map room_of o) e)

-- the places after a reset of every unit, where each log has room for it
abbrev pub all_reset : List (Option QueuedUnit) → List (Option QueuedUnit)
all_reset slots = map slot_after slots

-- each log has room for its reset exactly where all that a reset leaves lies within the rooms
pub room_for_reset : (slots : List (Option QueuedUnit)) → lie_within (map slot_reset (map slot_of slots)) (map room_of slots) ≡ all_can_reset slots
unfolding lie_within all_can_reset
room_for_reset [] = refl
room_for_reset (None ∷ qs) = room_for_reset qs
room_for_reset (Some q ∷ qs) = rw (length-unit_reset (unit_of q)) rw (room_for_reset qs) refl

pub units_reset : (slots : List (Option QueuedUnit)) → map slot_of (all_reset slots) ≡ map slot_reset (map slot_of slots)
units_reset [] = refl
units_reset (None ∷ qs) = ap (λ xs. None ∷ xs) (units_reset qs)
units_reset (Some q ∷ qs) = ap (λ xs. Some (unit_reset (unit_of q)) ∷ xs) (units_reset qs)

pub rooms_reset : (slots : List (Option QueuedUnit)) → map room_of (all_reset slots) ≡ map room_of slots
rooms_reset [] = refl
rooms_reset (None ∷ qs) = ap (λ xs. 0 ∷ xs) (rooms_reset qs)
rooms_reset (Some q ∷ qs) = ap (λ xs. q.core.log.room ∷ xs) (rooms_reset qs)

-- what is said of the unit of a LUN, said of its place
pub unit_is : (slots : List (Option QueuedUnit)) (lun : ℕ) (o : Option (Option QueuedUnit)) → slice_get slots lun ≡ o → unit_at (map slot_of slots) lun ≡ flat (option_map slot_of o)
unfolding unit_at
unit_is slots lun o e = ap flat (slice_get-map slot_of slots lun ∙ ap (λ x. option_map slot_of x) e)

there_by : (slots : List (Option QueuedUnit)) (lun : ℕ) (P : LogicalUnit → Type 0) (o : Option (Option QueuedUnit)) → slice_get slots lun ≡ o
    → IsThere (unit_at (map slot_of slots) lun) P → At slots lun (λ q. P (unit_of q))
there_by slots lun P (Some (Some q)) e h = (q, e, subst (λ x. IsThere x P) (unit_is slots lun _ e) h)
there_by slots lun P (Some None) e h = absurd (subst (λ x. IsThere x P) (unit_is slots lun _ e) h)
there_by slots lun P None e h = absurd (subst (λ x. IsThere x P) (unit_is slots lun _ e) h)

pub there : (slots : List (Option QueuedUnit)) (lun : ℕ) (P : LogicalUnit → Type 0) → IsThere (unit_at (map slot_of slots) lun) P → At slots lun (λ q. P (unit_of q))
there slots lun P h = there_by slots lun P (slice_get slots lun) refl h

pub back : (slots : List (Option QueuedUnit)) (lun : ℕ) (P : LogicalUnit → Type 0) (q : QueuedUnit) → slice_get slots lun ≡ Some (Some q) → P (unit_of q) → IsThere (unit_at (map slot_of slots) lun) P
back slots lun P q e h = subst (λ x. IsThere x P) (sym (unit_is slots lun _ e)) h

-- the place that was read is the unit's
pub read_place : (slots : List (Option QueuedUnit)) (lun : ℕ) (q : QueuedUnit) (o : Option QueuedUnit) → slice_get slots lun ≡ Some (Some q) → o ≡ slice_index_or slots lun o → o ≡ Some q
read_place slots lun q o e h = h ∙ get_or_from_slice_get slots lun (Some q) o e

pub in_range : (count : ℕ) (slots : List (Option QueuedUnit)) (link : HeldState) (breaks : Bool) (lun : ℕ) (q : QueuedUnit) → IsDevice count slots link breaks
    → slice_get slots lun ≡ Some (Some q) → lun < count
in_range count slots link breaks lun q i e = let a = i.counted in let b = i.eight in let l = slice_get_within slots lun (Some q) e in omega arith

pub within : (slots : List (Option QueuedUnit)) (lun : ℕ) (q : QueuedUnit) → slice_get slots lun ≡ Some (Some q) → lun < length slots
within slots lun q e = slice_get_within slots lun (Some q) e

-- one place after a change of one place
pub place_set : (slots : List (Option QueuedUnit)) (lun : ℕ) (q : QueuedUnit) → lun < length slots → slice_get (slice_set slots lun (Some q)) lun ≡ Some (Some q)
place_set [] lun q l = let f : ⊥ = omega arith in absurd f
place_set (x ∷ xs) zero q l = refl
place_set (x ∷ xs) (suc lun) q l = place_set xs lun q (omega arith)

pub place_other : (slots : List (Option QueuedUnit)) (lun k : ℕ) (o : Option QueuedUnit) → k ≢ lun → slice_get (slice_set slots lun o) k ≡ slice_get slots k
place_other [] lun k o d = refl
place_other (x ∷ xs) zero zero o d = absurd (d refl)
place_other (x ∷ xs) zero (suc k) o d = refl
place_other (x ∷ xs) (suc lun) zero o d = refl
place_other (x ∷ xs) (suc lun) (suc k) o d = place_other xs lun k o (λ e. d (ap suc e))

-- the same of a device whose state is seen
pub there_in : (d : DeviceState) (slots : List (Option QueuedUnit)) (link : HeldState) → device_of slots link ≡ d → (lun : ℕ) (P : LogicalUnit → Type 0) → IsThere (unit_at d.target.units lun) P
    → At slots lun (λ q. P (unit_of q))
there_in d slots link v lun P h = there slots lun P (subst (λ (x : DeviceState). IsThere (unit_at x.target.units lun) P) (sym v) h)

pub back_in : (d : DeviceState) (slots : List (Option QueuedUnit)) (link : HeldState) → device_of slots link ≡ d → (lun : ℕ) (P : LogicalUnit → Type 0) (q : QueuedUnit)
    → slice_get slots lun ≡ Some (Some q) → P (unit_of q) → IsThere (unit_at d.target.units lun) P
back_in d slots link v lun P q e h = subst (λ (x : DeviceState). IsThere (unit_at x.target.units lun) P) v (back slots lun P q e h)

-- what was read of a unit's place is the unit
pub is_unit : (slots : List (Option QueuedUnit)) (lun : ℕ) (q r : QueuedUnit) (o : Option QueuedUnit) → slice_get slots lun ≡ Some (Some q) → o ≡ slice_index_or slots lun o → o ≡ Some r → q ≡ r
is_unit slots lun q r o e h i = let p : Some q ≡ Some r = sym (read_place slots lun q o e h) ∙ i in cc

pub not_none : (slots : List (Option QueuedUnit)) (lun : ℕ) (q : QueuedUnit) (o : Option QueuedUnit) → slice_get slots lun ≡ Some (Some q) → o ≡ slice_index_or slots lun o → o ≡ None → ⊥
not_none slots lun q o e h i = let p : Some q ≡ None = sym (read_place slots lun q o e h) ∙ i in cc

-- the unit that was read in a place
pub read_unit : (d : DeviceState) (slots : List (Option QueuedUnit)) (link : HeldState) → device_of slots link ≡ d → (lun : ℕ) (P : LogicalUnit → Type 0) (r : QueuedUnit) (o : Option QueuedUnit)
    → IsThere (unit_at d.target.units lun) P → o ≡ slice_index_or slots lun o → o ≡ Some r → slice_get slots lun ≡ Some (Some r)
read_unit d slots link v lun P r o h e i = let t = there_in d slots link v lun P h in t.1 ∙ ap (λ (q : QueuedUnit). Some (Some q)) (is_unit slots lun t.0 r o t.1 e i)

-- the device once room was made in a unit's log
pub reserved_is : (slots : List (Option QueuedUnit)) (link : HeldState) (lun n : ℕ) (old new : QueuedUnit) → slice_get slots lun ≡ Some (Some old) → unit_of new ≡ unit_of old
    → new.core.log.room ≡ max old.core.log.room (length old.core.log.entries + n) → device_of (slice_set slots lun (Some new)) link ≡ device_reserved (device_of slots link) lun n
unfolding device_reserved
reserved_is slots link lun n old new e u r =
    let rooms : map room_of (slice_set slots lun (Some new)) ≡ slice_set (map room_of slots) lun (max (slice_index_or (map room_of slots) lun 0) (length old.core.log.entries + n)) =
    map-set room_of slots lun (Some new) ∙ ap (λ (room : ℕ). slice_set (map room_of slots) lun room) (r ∙ ap (λ (room : ℕ). max room (length old.core.log.entries + n)) (sym (room_there slots lun old e))) in
    ap (λ (us : List (Option LogicalUnit)). record { target = record { units = us; link = link_of link }; rooms = map room_of (slice_set slots lun (Some new)) }) (units_stay slots lun old new e u)
    ∙ ap (λ (rs : List ℕ). record { target = record { units = map slot_of slots; link = link_of link }; rooms = rs }) rooms
    ∙ sym (ap (λ (o : Option LogicalUnit). reserved_for (device_of slots link) lun n o) (unit_there slots lun old e))

-- the device once the room of a unit's log was lowered
pub lowered_is : (slots : List (Option QueuedUnit)) (link : HeldState) (lun room : ℕ) (old new : QueuedUnit) → slice_get slots lun ≡ Some (Some old) → unit_of new ≡ unit_of old
    → new.core.log.room ≡ room → device_of (slice_set slots lun (Some new)) link ≡ device_lowered (device_of slots link) lun room
lowered_is slots link lun room old new e u r =
    ap (λ (us : List (Option LogicalUnit)). record { target = record { units = us; link = link_of link }; rooms = map room_of (slice_set slots lun (Some new)) }) (units_stay slots lun old new e u)
    ∙ ap (λ (rs : List ℕ). record { target = record { units = map slot_of slots; link = link_of link }; rooms = rs }) (map-set room_of slots lun (Some new) ∙ ap (λ (n : ℕ). slice_set (map room_of slots) lun n) r)

-- a place that was read, of a LUN in range
pub place_read : (slots : List (Option QueuedUnit)) (lun : ℕ) (o p : Option QueuedUnit) → length slots ≡ 8 → lun < 8 → o ≡ slice_index_or slots lun o → o ≡ p → slice_get slots lun ≡ Some p
place_read slots lun o p n l e i = subst (λ x. slice_get slots lun ≡ Some x) i (slice_get_read slots 8 lun o (sym n) l e)

pub not_there : (d : DeviceState) (slots : List (Option QueuedUnit)) (link : HeldState) → device_of slots link ≡ d → (lun : ℕ) (P : LogicalUnit → Type 0) → slice_get slots lun ≡ Some None → IsThere (unit_at d.target.units lun) P → ⊥
not_there d slots link v lun P e h = let t = there_in d slots link v lun P h in let f : Some None ≡ Some (Some t.0) = sym e ∙ t.1 in cc

-- the unit of a LUN by the place that was read
pub unit_read : (d : DeviceState) (slots : List (Option QueuedUnit)) (link : HeldState) → device_of slots link ≡ d → (lun : ℕ) (o : Option QueuedUnit) → length slots ≡ 8 → lun < 8
    → o ≡ slice_index_or slots lun o → unit_at d.target.units lun ≡ slot_of o
unit_read d slots link v lun o n l e = subst (λ (x : DeviceState). unit_at x.target.units lun ≡ slot_of o) v (unit_is slots lun (Some o) (place_read slots lun o o n l e refl))

-- whether some unit passes a test, by the places
pub any-places : (test : Option LogicalUnit → Bool) (slots : List (Option QueuedUnit)) → list_any (λ o. test (slot_of o)) slots ≡ list_any test (map slot_of slots)
any-places test [] = refl
any-places test (o ∷ slots) = ap (λ b. test (slot_of o) || b) (any-places test slots)

-- what the rig says of the unit of a LUN
pub rig_past : (slots : List (Option QueuedUnit)) (lun : ℕ) → length slots ≤ lun → None ≡ rig_of (unit_at (map slot_of slots) lun)
rig_past slots lun l = sym (ap rig_of (unit_is slots lun None (slice_get_past slots lun l)))

pub rig_there : (slots : List (Option QueuedUnit)) (lun : ℕ) (o : Option QueuedUnit) → lun < length slots → o ≡ slice_index_or slots lun o → rig_of (slot_of o) ≡ rig_of (unit_at (map slot_of slots) lun)
rig_there slots lun o l e = sym (ap rig_of (unit_is slots lun (Some o) (slice_get_read slots (length slots) lun o refl l e)))
