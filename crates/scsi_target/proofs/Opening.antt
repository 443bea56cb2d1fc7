-- The opening of a device, unit by unit.
use Rattle.std.proofs.Common.{◌≡◌, ℕ, zero, suc, ◌+◌, ◌≤◌, ◌<◌, Bool, false, List, [], ◌∷◌, ◌++◌, refl, ap, arith, sym, ◌∙◌, Option, Some, None, length, slice_set, slice_index_or, subst, ◌⊎◌, inl, inr, map, take, fold, replicate}
use Rattle.std.specs.Prelude.{slice_get}
use Rattle.std.specs.List.{list_any}
use Rattle.std.proofs.lemmas.List.{length-set, map-set}
use Rattle.std.proofs.lemmas.List.Sums.{fold-append}
use Rattle.rig_types.specs.declared.rig.Unit.{Unit as RigUnit}
use Rattle.rig_types.specs.Ranges.{IsUnit}
use Rattle.target_law.specs.Target.{LogicalUnit, adds_unit, unit_opened, with_unit, target_opened}
use Rattle.target_law.specs.Calls.{slot_is_rogue}
use Rattle.unit_tasks.specs.declared.queued.QueuedUnit.{QueuedUnit}
use Rattle.unit_tasks.specs.Units.{unit_of}
use Rattle.target_law.specs.Devices.{device_opened}
use Rattle.scsi_target.specs.Devices.{IsOneTarget, first_is_rogue}
use Rattle.scsi_target.specs.Slots.{slot_of, room_of}
use Rattle.scsi_target.specs.Views.{IsSlot, IsDevice, device_of}
use Rattle.scsi_target.specs.declared.connection_state.ConnectionState.TheVariants as held
use Rattle.scsi_target.proofs.Places.{place_set, units_with}
use Rattle.scsi_target.proofs.Devices.{slot_after_set, known_by}
use Rattle.unit_law.proofs.Views.{same_or_not}

-- no unit
abbrev pub no_slots : List (Option QueuedUnit)
no_slots = replicate 8 None

none_at : (n k : ℕ) (q : QueuedUnit) → slice_get (replicate n None) k ≡ Some (Some q) → ⊥
none_at zero k q e = cc
none_at (suc n) zero q e = cc
none_at (suc n) (suc k) q e = none_at n k q e

-- the device after n of its units
pub record Opens (units : List RigUnit) (count : ℕ) (slots : List (Option QueuedUnit)) (n : ℕ) : Type 0 where
  pub counted : count ≡ 8
  pub eight : length slots ≡ 8
  pub units_are : map slot_of slots ≡ fold adds_unit (replicate 8 None) (take n units)
  pub rooms_are : map room_of slots ≡ replicate 8 0
  pub slots_are : (place : ℕ) (q : QueuedUnit) → slice_get slots place ≡ Some (Some q) → IsSlot (first_is_rogue units) held.BusFree place q
  pub known : ((n ≡ 0) × (list_any slot_is_rogue (map slot_of slots) ≡ false)) ⊎ (list_any slot_is_rogue (map slot_of slots) ≡ first_is_rogue units)

pub opens_start : (units : List RigUnit) (count : ℕ) (slots : List (Option QueuedUnit)) → count ≡ 8 → slots ≡ no_slots → Opens units count slots 0
opens_start units count slots e f = subst (λ s. Opens units count s 0) (sym f) (record {
  counted = e;
  eight = refl;
  units_are = refl;
  rooms_are = refl;
  slots_are = λ k q g. absurd (none_at 8 k q g);
  known = inl (refl, refl);
})

-- one unit in its place
abbrev pub placed : List (Option QueuedUnit) → ℕ → QueuedUnit → List (Option QueuedUnit)
placed slots lun q = slice_set slots lun (Some q)

take_next : {A : Type 0} (n : ℕ) (xs : List A) (d : A) → n < length xs → take (suc n) xs ≡ take n xs ++ slice_index_or xs n d ∷ []
take_next n [] d l = let f : ⊥ = omega arith in absurd f
take_next zero (x ∷ xs) d l = refl
take_next (suc n) (x ∷ xs) d l = ap (λ ys. x ∷ ys) (take_next n xs d (omega arith))

take_more : {A : Type 0} (n : ℕ) (xs : List A) (d : A) → n < length xs → take (n + 1) xs ≡ take n xs ++ slice_index_or xs n d ∷ []
take_more n xs d l = let e : n + 1 ≡ suc n = omega arith in ap (λ m. take m xs) e ∙ take_next n xs d l

-- the units with one more
units_more : (units : List RigUnit) (slots : List (Option QueuedUnit)) (n : ℕ) (q : QueuedUnit) (r : RigUnit) → take (n + 1) units ≡ take n units ++ r ∷ [] → unit_of q ≡ unit_opened r
    → map slot_of slots ≡ fold adds_unit (replicate 8 None) (take n units) → map slot_of (placed slots r.lun q) ≡ fold adds_unit (replicate 8 None) (take (n + 1) units)
units_more units slots n q r t e h =
    sym (units_with slots r.lun q) ∙ ap (λ u. with_unit (map slot_of slots) r.lun u) e ∙ ap (λ us. with_unit us r.lun (unit_opened r)) h
    ∙ sym (fold-append adds_unit (replicate 8 None) (take n units) (r ∷ [])) ∙ ap (λ us. fold adds_unit (replicate 8 None) us) (sym t)

zero_set : (n k : ℕ) → slice_set {A = ℕ} (replicate n 0) k 0 ≡ replicate n 0
zero_set zero k = refl
zero_set (suc n) zero = refl
zero_set (suc n) (suc k) = ap (λ xs. 0 ∷ xs) (zero_set n k)

rooms_more : (slots : List (Option QueuedUnit)) (lun : ℕ) (q : QueuedUnit) → q.core.log.room ≡ 0 → map room_of slots ≡ replicate 8 0 → map room_of (placed slots lun q) ≡ replicate 8 0
rooms_more slots lun q r h = map-set room_of slots lun (Some q) ∙ ap (λ x. slice_set (map room_of slots) lun x) r ∙ ap (λ xs. slice_set xs lun 0) h ∙ zero_set 8 lun

-- a unit at its opening in its place
slot_opened : (version : ℕ) (breaks : Bool) (q : QueuedUnit) (r : RigUnit) → IsUnit version r → r.rogue ≡ breaks → unit_of q ≡ unit_opened r → q.tasks.idle ≡ r.depth → q.tasks.depth ≡ r.depth
    → q.core.log.room ≡ 0 → IsSlot breaks held.BusFree r.lun q
slot_opened version breaks q r u b e idle depth room =
    let rig : q.rig ≡ r = ap (λ (l : LogicalUnit). l.rig) e in
    let none = ap (λ (l : LogicalUnit). l.tasks) e in
    let log = ap (λ (l : LogicalUnit). l.log) e in
    record {
      lun = ap (λ (x : RigUnit). x.lun) rig;
      unit = (version, subst (IsUnit version) (sym rig) u);
      rogue = ap (λ (x : RigUnit). x.rogue) rig ∙ b;
      depth = depth ∙ sym (ap (λ (x : RigUnit). x.depth) rig);
      places = rw none let a = idle in let d = depth in omega arith;
      waiting = rw none λ i d l. let f : ⊥ = omega arith in absurd f;
      log = rw log omega arith;
    }

-- each unit breaks the rules as the first does
rogue_as_first : (version : ℕ) (units : List RigUnit) (n : ℕ) (d : RigUnit) → IsOneTarget version units → n < length units → (slice_index_or units n d).rogue ≡ first_is_rogue units
rogue_as_first version [] n d i l = let f : ⊥ = omega arith in absurd f
rogue_as_first version (r ∷ rs) zero d i l = refl
rogue_as_first version (r ∷ rs) (suc n) d i l = sym ((i.agree 0 (suc n) d (omega arith) l).rogue (i.same 0 (suc n) d (omega arith) l))

pub opens_more : (version : ℕ) (units : List RigUnit) (count : ℕ) (slots : List (Option QueuedUnit)) (n : ℕ) (d : RigUnit) (q : QueuedUnit) → IsOneTarget version units → Opens units count slots n → n < length units
    → unit_of q ≡ unit_opened (slice_index_or units n d) → q.core.log.room ≡ 0 → q.tasks.idle ≡ (slice_index_or units n d).depth → q.tasks.depth ≡ (slice_index_or units n d).depth
    → Opens units count (placed slots (slice_index_or units n d).lun q) (n + 1)
opens_more version units count slots n d q i o l e room idle depth =
    let r : RigUnit = slice_index_or units n d in
    let u : IsUnit version r = i.in_range n d l in
    let lun_in : r.lun < length slots = let a = u.in_range.lun in let b = o.eight in omega arith in
    let here : IsSlot (first_is_rogue units) held.BusFree r.lun q = slot_opened version (first_is_rogue units) q r u (rogue_as_first version units n d i l) e idle depth room in
    let all = λ (k : ℕ) (p : QueuedUnit) (g : slice_get (placed slots r.lun q) k ≡ Some (Some p)). slot_after_set slots held.BusFree held.BusFree (first_is_rogue units) r.lun q o.slots_are lun_in here (λ k d. refl) k p g (same_or_not k r.lun) in
    record {
      counted = o.counted;
      eight = length-set slots r.lun (Some q) ∙ o.eight;
      units_are = units_more units slots n q r (take_more n units d l) e o.units_are;
      rooms_are = rooms_more slots r.lun q room o.rooms_are;
      slots_are = all;
      known = inr (known_by (placed slots r.lun q) (first_is_rogue units) r.lun q (place_set slots r.lun q lun_in) (λ k p g. (all k p g).rogue));
    }

-- where all units are placed the device is open
none_first : (units : List RigUnit) → length units ≤ 0 → first_is_rogue units ≡ false
none_first [] l = refl
none_first (r ∷ rs) l = let f : ⊥ = omega arith in absurd f

known_all : (units : List RigUnit) (b : Bool) (n : ℕ) → length units ≤ n → ((n ≡ 0) × (b ≡ false)) ⊎ (b ≡ first_is_rogue units) → b ≡ first_is_rogue units
known_all units b n l (inl p) = let e = p.0 in p.1 ∙ sym (none_first units (omega arith))
known_all units b n l (inr e) = e

pub opens_device : (units : List RigUnit) (count : ℕ) (slots : List (Option QueuedUnit)) (n : ℕ) → Opens units count slots n → length units ≤ n → IsDevice count slots held.BusFree (first_is_rogue units)
opens_device units count slots n o l = record {
  counted = o.counted;
  eight = o.eight;
  slots_are = o.slots_are;
  known = known_all units (list_any slot_is_rogue (map slot_of slots)) n l o.known;
  linked = tt;
}

take_all : {A : Type 0} (n : ℕ) (xs : List A) → length xs ≤ n → take n xs ≡ xs
take_all zero [] l = refl
take_all (suc n) [] l = refl
take_all zero (x ∷ xs) l = let f : ⊥ = omega arith in absurd f
take_all (suc n) (x ∷ xs) l = ap (λ ys. x ∷ ys) (take_all n xs (omega arith))

pub opens_state : (units : List RigUnit) (count : ℕ) (slots : List (Option QueuedUnit)) (n : ℕ) → Opens units count slots n → length units ≤ n → device_of slots held.BusFree ≡ device_opened units
unfolding target_opened
opens_state units count slots n o l = rw o.rooms_are rw o.units_are rw (take_all n units l) refl
