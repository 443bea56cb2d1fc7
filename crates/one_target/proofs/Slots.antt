-- A target with one unit, of LUN 0.
use Rattle.std.proofs.Common.{◌≡◌, ℕ, zero, suc, ◌≤◌, true, nat_le, List, [], ◌∷◌, length, get_or, refl, arith, Option, Some, None}
use Rattle.std.proofs.lemmas.Bool.Decides.{nat_tests}
use Rattle.rig_types.specs.declared.rig.Unit.{Unit as RigUnit}
use Rattle.target_law.specs.Target.{LogicalUnit, BusFree, unit_at, with_unit, unit_opened, target_opened}
use Rattle.target_law.specs.Devices.{lie_within}

-- the eight places of its units
abbrev pub slots : LogicalUnit → List (Option LogicalUnit)
slots u = Some u ∷ None ∷ None ∷ None ∷ None ∷ None ∷ None ∷ None ∷ []

pub unit_at-slots : (u : LogicalUnit) → unit_at (slots u) 0 ≡ Some u
unfolding unit_at
unit_at-slots u = refl

pub with_unit-slots : (u v : LogicalUnit) → with_unit (slots u) 0 v ≡ slots v
unfolding with_unit
with_unit-slots u v = refl

pub opened-slots : (r : RigUnit) → r.lun ≡ 0 → target_opened (r ∷ []) ≡ record { units = slots (unit_opened r); link = BusFree }
unfolding target_opened with_unit
opened-slots r e = rw e refl

-- there is room for a log that is short
none_fits : (us : List (Option LogicalUnit)) (rooms : List ℕ) → ((rs : List ℕ) → lie_within us rs ≡ true) → lie_within (None ∷ us) rooms ≡ true
unfolding lie_within
none_fits us [] f = f []
none_fits us (r ∷ rs) f = f rs

nones : ℕ → List (Option LogicalUnit)
nones zero = []
nones (suc n) = None ∷ nones n

nones_fit : (n : ℕ) (rooms : List ℕ) → lie_within (nones n) rooms ≡ true
unfolding nones lie_within
nones_fit zero rooms = refl
nones_fit (suc n) rooms = none_fits (nones n) rooms (nones_fit n)

all_none : (rooms : List ℕ) → lie_within (None ∷ None ∷ None ∷ None ∷ None ∷ None ∷ None ∷ []) rooms ≡ true
unfolding nones
all_none rooms = nones_fit 7 rooms

fits_first : (n room : ℕ) → n ≤ 8 → 8 ≤ room → nat_le n room ≡ true
fits_first n room l h = let k : n ≤ room = omega arith in grind (arith, nat_tests)

pub slots-fit : (u : LogicalUnit) (rooms : List ℕ) → 8 ≤ get_or rooms 0 0 → length u.log ≤ 8 → lie_within (slots u) rooms ≡ true
unfolding lie_within
slots-fit u [] h l = absurd (omega arith)
slots-fit u (r ∷ rs) h l = rw (fits_first (length u.log) r l h) (all_none rs)
