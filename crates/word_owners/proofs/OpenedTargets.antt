-- At the opening of a rig each unit's target answers exactly where the unit isn't absent.
use Rattle.std.proofs.Common.{◌≡◌, ◌≢◌, ◌⊎◌, inl, inr, ℕ, zero, suc, ◌<◌, ◌≤◌, List, [], ◌∷◌, length, refl, sym, ap, ◌∙◌, arith, Bool, true, false, Option, Some, None, length-set}
use Rattle.std.specs.Prelude.{not, ◌||◌, ◌==◌, if◌then◌else◌, fold, replicate, slice_set}
use Rattle.std.specs.List.{list_any}
use Rattle.std.proofs.lemmas.Bool.Decides.{nat_tests}
use Rattle.std.proofs.lemmas.List.Elements.{All-get_or}
use Rattle.std.proofs.lemmas.List.FromFn.{get_or-map-range_with_len}
use Rattle.rig_types.specs.Ranges.{IsRig, IsUnit}
use Rattle.rig_types.specs.declared.rig.Unit.{Unit as RigUnit}
use Rattle.target_law.specs.Calls.{answers, slot_answers}
use Rattle.target_law.specs.Devices.{DeviceState, device_opened}
use Rattle.target_law.specs.Target.{LogicalUnit, adds_unit, unit_opened, target_opened, with_unit}
use Rattle.bus_law.specs.Bus.{bus_opened, device_at, no_device, units_of}
use Rattle.desk_law.specs.Desk.{no_unit}
use Rattle.word_owners.specs.Answering.{AnsweringOpens, unit_at}
use Rattle.word_owners.proofs.Frames.{same_or}

-- ---- the slots of a target

-- every unit there is absent alike; there is a unit
abbrev Fits : Bool → List (Option LogicalUnit) → Type 0
Fits a [] = Unit {0}
Fits a (None ∷ us) = Fits a us
Fits a (Some u ∷ us) = (u.rig.absent ≡ a) × Fits a us

abbrev HasUnit : List (Option LogicalUnit) → Type 0
HasUnit [] = ⊥
HasUnit (None ∷ us) = HasUnit us
HasUnit (Some u ∷ us) = Unit {0}

none-answers : (us : List (Option LogicalUnit)) → Fits true us → list_any slot_answers us ≡ false
none-answers [] h = refl
none-answers (None ∷ us) h = none-answers us h
none-answers (Some u ∷ us) h = ap (λ (b : Bool). not b || list_any slot_answers us) h.0 ∙ none-answers us h.1

one-answers : (a : Bool) (us : List (Option LogicalUnit)) → Fits a us → HasUnit us → list_any slot_answers us ≡ not a
one-answers a [] h k = absurd k
one-answers a (None ∷ us) h k = one-answers a us h k
one-answers true (Some u ∷ us) h k = none-answers (Some u ∷ us) h
one-answers false (Some u ∷ us) h k = ap (λ (b : Bool). not b || list_any slot_answers us) h.0

fits-set : (a : Bool) (us : List (Option LogicalUnit)) (n : ℕ) (u : LogicalUnit) → u.rig.absent ≡ a → Fits a us → Fits a (slice_set us n (Some u))
fits-set a [] n u e h = tt
fits-set a (None ∷ us) zero u e h = (e, h)
fits-set a (Some v ∷ us) zero u e h = (e, h.1)
fits-set a (None ∷ us) (suc n) u e h = fits-set a us n u e h
fits-set a (Some v ∷ us) (suc n) u e h = (h.0, fits-set a us n u e h.1)

has-set : (us : List (Option LogicalUnit)) (n : ℕ) (u : LogicalUnit) → n < length us → HasUnit (slice_set us n (Some u))
has-set [] n u l = absurd (omega (arith, l))
has-set (x ∷ us) zero u l = tt
has-set (None ∷ us) (suc n) u l = has-set us n u (omega (arith, l))
has-set (Some v ∷ us) (suc n) u l = tt

-- ---- units of one target

abbrev Uniform : Bool → List RigUnit → Type 0
Uniform a [] = Unit {0}
Uniform a (r ∷ rs) = (r.absent ≡ a) × (r.lun ≤ 7) × Uniform a rs

abbrev IsSome : List RigUnit → Type 0
IsSome [] = ⊥
IsSome (r ∷ rs) = Unit {0}

fold-fits : (a : Bool) (rs : List RigUnit) (us : List (Option LogicalUnit)) → length us ≡ 8 → Fits a us → Uniform a rs → HasUnit us ⊎ IsSome rs → Fits a (fold adds_unit us rs) × HasUnit (fold adds_unit us rs)
unfolding with_unit
fold-fits a [] us l h k (inl s) = (h, s)
fold-fits a [] us l h k (inr s) = absurd s
fold-fits a (r ∷ rs) us l h k s =
    fold-fits a rs (slice_set us r.lun (Some (unit_opened r))) (length-set us r.lun (Some (unit_opened r)) ∙ l) (fits-set a us r.lun (unit_opened r) k.0 h) k.2
    (inl (has-set us r.lun (unit_opened r) (omega (arith, l, k.1))))

opened-answers : (a : Bool) (rs : List RigUnit) → Uniform a rs → IsSome rs → answers (target_opened rs) ≡ not a
unfolding answers target_opened
opened-answers a rs k s = let x = fold-fits a rs (replicate 8 None) refl tt k (inr s) in one-answers a (fold adds_unit (replicate 8 None) rs) x.0 x.1

-- ---- the units of a rig that a target has

module _ (id : ℕ) (a : Bool) where
  uniform-if : (b : Bool) (r : RigUnit) (rs : List RigUnit) → (b ≡ true → (r.absent ≡ a) × (r.lun ≤ 7)) → Uniform a rs → Uniform a (if b then r ∷ rs else rs)
  uniform-if true r rs h k = let x = h refl in (x.0, x.1, k)
  uniform-if false r rs h k = k

  uniform : (us : List RigUnit) → ((i : ℕ) → i < length us → (unit_at us i).target ≡ id → ((unit_at us i).absent ≡ a) × ((unit_at us i).lun ≤ 7)) → Uniform a (units_of us id)
  uniform [] h = tt
  uniform (r ∷ us) h = uniform-if (r.target == id) r (units_of us id) (λ e. h 0 (omega arith) (grind (arith, nat_tests, e))) (uniform us (λ i l e. h (suc i) (omega (arith, l)) e))

  some-if : (b : Bool) (r : RigUnit) (rs : List RigUnit) → (b ≡ true) ⊎ IsSome rs → IsSome (if b then r ∷ rs else rs)
  some-if true r rs h = tt
  some-if false r rs (inl h) = absurd cc
  some-if false r rs (inr h) = h

  some : (us : List RigUnit) (i : ℕ) → i < length us → (unit_at us i).target ≡ id → IsSome (units_of us id)
  some [] i l e = absurd (omega (arith, l))
  some (r ∷ us) zero l e = some-if (r.target == id) r (units_of us id) (inl (grind (arith, nat_tests, e)))
  some (r ∷ us) (suc i) l e = some-if (r.target == id) r (units_of us id) (inr (some us i (omega (arith, l)) e))

alike-by : (version retries step_limit : ℕ) (units : List RigUnit) → IsRig version units retries step_limit → (i u : ℕ) → i < length units → u < length units → (i < u) ⊎ (u < i) → (unit_at units i).target ≡ (unit_at units u).target
    → (unit_at units i).absent ≡ (unit_at units u).absent
alike-by version retries step_limit units h i u k l (inl o) e = (h.agree i u no_unit o l).absent e
alike-by version retries step_limit units h i u k l (inr o) e = sym ((h.agree u i no_unit o k).absent (sym e))

before-or : (i u : ℕ) → i ≢ u → (i < u) ⊎ (u < i)
before-or i u n = grind arith

pub answering_opens : AnsweringOpens
answering_opens version retries step_limit units h =
    let in-range : (u : ℕ) → u < length units → IsUnit version (unit_at units u) = λ u l. All-get_or (IsUnit version) units u no_unit l h.in_range in
    record {
      target = λ u l. omega (arith, (in-range u l).in_range.target);
      answering = λ u l.
          let r : RigUnit = unit_at units u in
          let id : ℕ = r.target in
          let alike : (i : ℕ) → i < length units → (unit_at units i).target ≡ id → (unit_at units i).absent ≡ r.absent = λ i k e. elim (same_or i u) [
            | inl z ↦ ap (λ (j : ℕ). (unit_at units j).absent) z
            | inr z ↦ alike-by version retries step_limit units h i u k l (before-or i u z) e
          ] in
          let device : device_at (bus_opened units) id ≡ device_opened (units_of units id) =
          get_or-map-range_with_len (λ (j : ℕ). device_opened (units_of units j)) 0 7 id id no_device (omega (arith, (in-range u l).in_range.target)) (omega arith) in
          ap (λ (d : DeviceState). answers d.target) device
          ∙ opened-answers r.absent (units_of units id) (uniform id r.absent units (λ i k e. (alike i k e, (in-range i k).in_range.lun))) (some id r.absent units u l refl);
    }
