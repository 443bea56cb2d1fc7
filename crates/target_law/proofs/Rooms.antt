-- Logs within their rooms.
use Rattle.std.proofs.lemmas.List.{get_or-set_same, get_or-set_other}
use Rattle.std.proofs.Common.{◌≡◌, ◌≢◌, ℕ, zero, suc, ◌+◌, max, ◌≤◌, ◌<◌, Bool, true, false, List, [], ◌∷◌, refl, ap, sym, ◌∙◌, arith, Option, Some, None, length, nat_le, ◌&&◌, slice_set, slice_index_or, if◌then◌else◌}
use Rattle.std.proofs.lemmas.Bool.Decides.{nat_tests}
use Rattle.std.proofs.lemmas.Bool.{and_parts}
use Rattle.target_law.specs.Target.{LogicalUnit, Target, unit_at}
use Rattle.target_law.specs.Devices.{DeviceState, room_at, lies_within, lie_within, where_room, reserved_for, device_reserved}

and-true : (a b : Bool) → b ≡ true → (a && b) ≡ a
and-true true true e = refl
and-true false true e = refl
and-true a false e = cc

pub and-of : (a b c : Bool) → a ≡ true → b ≡ c → (a && b) ≡ c
and-of true b c e h = h
and-of false b c e h = cc

-- a log within its room
lies-least : (o : Option LogicalUnit) (room : ℕ) (u : LogicalUnit) → lies_within o room ≡ true → o ≡ Some u → length u.log ≤ room
lies-least (Some x) room u e h =
    let same : x ≡ u = cc in
    let l : length x.log ≤ room = grind (arith, nat_tests) in
    rw (sym same) l
lies-least None room u e h = cc

lies-of : (o : Option LogicalUnit) (room : ℕ) → ((u : LogicalUnit) → o ≡ Some u → length u.log ≤ room) → lies_within o room ≡ true
lies-of (Some x) room f = let l = f x refl in grind (arith, nat_tests)
lies-of None room f = refl

-- each log, by its LUN
pub lie_within-each : (us : List (Option LogicalUnit)) (rooms : List ℕ) → lie_within us rooms ≡ true → (lun : ℕ) (u : LogicalUnit) → unit_at us lun ≡ Some u → length u.log ≤ slice_index_or rooms lun 0
unfolding lie_within unit_at
lie_within-each [] rooms e lun u h = cc
lie_within-each (x ∷ us) [] e zero u h = lies-least x 0 u ((and_parts (lies_within x 0) (lie_within us []) e).0) h
lie_within-each (x ∷ us) [] e (suc lun) u h = lie_within-each us [] ((and_parts (lies_within x 0) (lie_within us []) e).1) lun u h
lie_within-each (x ∷ us) (r ∷ rooms) e zero u h = lies-least x r u ((and_parts (lies_within x r) (lie_within us rooms) e).0) h
lie_within-each (x ∷ us) (r ∷ rooms) e (suc lun) u h = lie_within-each us rooms ((and_parts (lies_within x r) (lie_within us rooms) e).1) lun u h

pub lie_within-all : (us : List (Option LogicalUnit)) (rooms : List ℕ) → ((lun : ℕ) (u : LogicalUnit) → unit_at us lun ≡ Some u → length u.log ≤ slice_index_or rooms lun 0) → lie_within us rooms ≡ true
unfolding lie_within unit_at
lie_within-all [] rooms f = refl
lie_within-all (x ∷ us) [] f = and-of (lies_within x 0) _ _ (lies-of x 0 (f 0)) (lie_within-all us [] (λ lun u e. f (suc lun) u e))
lie_within-all (x ∷ us) (r ∷ rooms) f = and-of (lies_within x r) _ _ (lies-of x r (f 0)) (lie_within-all us rooms (λ lun u e. f (suc lun) u e))

-- where every log lies within its room, one other unit in the place of one decides
pub lie_within-set : (us : List (Option LogicalUnit)) (rooms : List ℕ) (i : ℕ) (u : Option LogicalUnit) → lie_within us rooms ≡ true → i < length us → i < length rooms
    → lie_within (slice_set us i u) rooms ≡ lies_within u (slice_index_or rooms i 0)
unfolding lie_within
lie_within-set [] rooms i u e l m = let f : ⊥ = omega arith in absurd f
lie_within-set (x ∷ us) [] i u e l m = let f : ⊥ = omega arith in absurd f
lie_within-set (x ∷ us) (r ∷ rooms) zero u e l m = and-true (lies_within u r) (lie_within us rooms) ((and_parts (lies_within x r) (lie_within us rooms) e).1)
lie_within-set (x ∷ us) (r ∷ rooms) (suc i) u e l m =
    let parts = and_parts (lies_within x r) (lie_within us rooms) e in
    and-of (lies_within x r) _ _ parts.0 (lie_within-set us rooms i u parts.1 (omega arith) (omega arith))

-- the logs have room, or not
pub where_true : (d : DeviceState) (t : Target) → lie_within t.units d.rooms ≡ true → where_room d t ≡ record { target = t; rooms = d.rooms }
unfolding where_room
where_true d t e = rw e refl

pub where_false : (d : DeviceState) (t : Target) → lie_within t.units d.rooms ≡ false → where_room d t ≡ d
unfolding where_room
where_false d t e = rw e refl

-- room was made in a unit's log
reserved_for-target : (d : DeviceState) (lun n : ℕ) (o : Option LogicalUnit) → (reserved_for d lun n o).target ≡ d.target
reserved_for-target d lun n None = refl
reserved_for-target d lun n (Some u) = refl

pub device_reserved-target : (d : DeviceState) (lun n : ℕ) → (device_reserved d lun n).target ≡ d.target
unfolding device_reserved
device_reserved-target d lun n = reserved_for-target d lun n (unit_at d.target.units lun)

pub device_reserved-here : (d : DeviceState) (lun n : ℕ) (u : LogicalUnit) → unit_at d.target.units lun ≡ Some u → lun < length d.rooms → room_at (device_reserved d lun n) lun ≡ max (room_at d lun) (length u.log + n)
unfolding device_reserved
device_reserved-here d lun n u e l =
    ap (λ (o : Option LogicalUnit). room_at (reserved_for d lun n o) lun) e ∙ get_or-set_same d.rooms lun (max (room_at d lun) (length u.log + n)) 0 l

reserved_for-other : (d : DeviceState) (lun n k : ℕ) (o : Option LogicalUnit) → k ≢ lun → room_at (reserved_for d lun n o) k ≡ room_at d k
reserved_for-other d lun n k None e = refl
reserved_for-other d lun n k (Some u) e = get_or-set_other d.rooms lun k (max (room_at d lun) (length u.log + n)) 0 e

pub device_reserved-other : (d : DeviceState) (lun n k : ℕ) → k ≢ lun → room_at (device_reserved d lun n) k ≡ room_at d k
unfolding device_reserved
device_reserved-other d lun n k e = reserved_for-other d lun n k (unit_at d.target.units lun) e
