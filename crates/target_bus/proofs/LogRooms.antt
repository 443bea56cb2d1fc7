-- The room of logs: made in one log, in those of a device and in those of all, and given back.
use Rattle.std.proofs.Common.{◌≡◌, ◌≢◌, ◌<◌, ◌≤◌, ◌+◌, max, ℕ, zero, suc, List, [], ◌∷◌, length, fold, slice_set, slice_index_or, Option, Some, None, refl, sym, ap, subst, ◌∙◌, ◌⊎◌, inl, inr, arith}
use Rattle.std.specs.List.{range_with_len}
use Rattle.std.proofs.lemmas.List.{length-set}
use Rattle.unit_law.proofs.Views.{same_or_not}
use Rattle.rig_types.specs.declared.rig.Unit.{Unit as RigUnit}
use Rattle.target_law.specs.Target.{LogicalUnit, unit_at}
use Rattle.target_law.specs.Lawful.{IsThere}
use Rattle.target_law.specs.Rigs.{rig_of}
use Rattle.target_law.specs.Devices.{DeviceState, room_at, reserved_for, device_reserved, device_lowered}
use Rattle.target_law.proofs.Rooms.{device_reserved-target, device_reserved-here, device_reserved-other}
use Rattle.bus_law.specs.Rooms.{reserve_of, with_room_for, with_room_of, with_room}
use Rattle.target_bus.specs.Rooms.{IsRoomOf, RoomMade, AreRoomsOf}

-- ---- an element that is set, and set back

set-twice : {A : Type 0} (xs : List A) (n : ℕ) (x y : A) → slice_set (slice_set xs n x) n y ≡ slice_set xs n y
set-twice [] n x y = refl
set-twice (z ∷ xs) zero x y = refl
set-twice {A} (z ∷ xs) (suc n) x y = ap (λ (ys : List A). z ∷ ys) (set-twice xs n x y)

pub set-self : {A : Type 0} (xs : List A) (n : ℕ) (d : A) → slice_set xs n (slice_index_or xs n d) ≡ xs
set-self [] n d = refl
set-self (z ∷ xs) zero d = refl
set-self {A} (z ∷ xs) (suc n) d = ap (λ (ys : List A). z ∷ ys) (set-self xs n d)

pub set-back : {A : Type 0} (xs : List A) (n : ℕ) (x d : A) → slice_set (slice_set xs n x) n (slice_index_or xs n d) ≡ xs
set-back xs n x d = set-twice xs n x (slice_index_or xs n d) ∙ set-self xs n d

-- ---- the room of one log

rooms-back : (d : DeviceState) (rs : List ℕ) → rs ≡ d.rooms → record { target = d.target; rooms = rs } ≡ d
rooms-back d rs e = ap (λ (x : List ℕ). record { target = d.target; rooms = x }) e

reserved-back : (d : DeviceState) (lun n : ℕ) (o : Option LogicalUnit) → device_lowered (reserved_for d lun n o) lun (room_at d lun) ≡ d
reserved-back d lun n None = rooms-back d _ (set-self d.rooms lun 0)
reserved-back d lun n (Some u) = rooms-back d _ (set-back d.rooms lun (max (room_at d lun) (length u.log + n)) 0)

back-for : (d : DeviceState) (lun : ℕ) (o : Option LogicalUnit) → device_lowered (with_room_for d lun o) lun (room_at d lun) ≡ d
unfolding device_reserved
back-for d lun None = rooms-back d _ (set-self d.rooms lun 0)
back-for d lun (Some u) = reserved-back d lun (reserve_of u.rig) (unit_at d.target.units lun)

lowered-back : (d : DeviceState) (lun : ℕ) → device_lowered (with_room_of d lun) lun (room_at d lun) ≡ d
lowered-back d lun = back-for d lun (unit_at d.target.units lun)

target-for : (d : DeviceState) (lun : ℕ) (o : Option LogicalUnit) → (with_room_for d lun o).target ≡ d.target
target-for d lun None = refl
target-for d lun (Some u) = device_reserved-target d lun (reserve_of u.rig)

pub with-target : (d : DeviceState) (lun : ℕ) → (with_room_of d lun).target ≡ d.target
with-target d lun = target-for d lun (unit_at d.target.units lun)

other-for : (d : DeviceState) (lun k : ℕ) (o : Option LogicalUnit) → k ≢ lun → room_at (with_room_for d lun o) k ≡ room_at d k
other-for d lun k None e = refl
other-for d lun k (Some u) e = device_reserved-other d lun (reserve_of u.rig) k e

with-other : (d : DeviceState) (lun k : ℕ) → k ≢ lun → room_at (with_room_of d lun) k ≡ room_at d k
with-other d lun k e = other-for d lun k (unit_at d.target.units lun) e

with-here : (d : DeviceState) (lun : ℕ) (u : LogicalUnit) → unit_at d.target.units lun ≡ Some u → lun < length d.rooms → room_at (with_room_of d lun) lun ≡ max (room_at d lun) (length u.log + reserve_of u.rig)
with-here d lun u e l = ap (λ (o : Option LogicalUnit). room_at (with_room_for d lun o) lun) e ∙ device_reserved-here d lun (reserve_of u.rig) u e l

reserved-rooms : (d : DeviceState) (lun n : ℕ) (o : Option LogicalUnit) → length (reserved_for d lun n o).rooms ≡ length d.rooms
reserved-rooms d lun n None = refl
reserved-rooms d lun n (Some u) = length-set d.rooms lun (max (room_at d lun) (length u.log + n))

rooms-for : (d : DeviceState) (lun : ℕ) (o : Option LogicalUnit) → length (with_room_for d lun o).rooms ≡ length d.rooms
unfolding device_reserved
rooms-for d lun None = refl
rooms-for d lun (Some u) = reserved-rooms d lun (reserve_of u.rig) (unit_at d.target.units lun)

with-rooms : (d : DeviceState) (lun : ℕ) → length (with_room_of d lun).rooms ≡ length d.rooms
with-rooms d lun = rooms-for d lun (unit_at d.target.units lun)

-- the room isn't less than before
least-set : (rs : List ℕ) (n m : ℕ) → slice_index_or rs n 0 ≤ slice_index_or (slice_set rs n (max (slice_index_or rs n 0) m)) n 0
least-set [] n m = omega arith
least-set (r ∷ rs) zero m = omega arith
least-set (r ∷ rs) (suc n) m = least-set rs n m

least-reserved : (d : DeviceState) (lun n : ℕ) (o : Option LogicalUnit) → room_at d lun ≤ room_at (reserved_for d lun n o) lun
least-reserved d lun n None = omega arith
least-reserved d lun n (Some u) = least-set d.rooms lun (length u.log + n)

least-for : (d : DeviceState) (lun : ℕ) (o : Option LogicalUnit) → room_at d lun ≤ room_at (with_room_for d lun o) lun
unfolding device_reserved
least-for d lun None = omega arith
least-for d lun (Some u) = least-reserved d lun (reserve_of u.rig) (unit_at d.target.units lun)

with-least : (d : DeviceState) (lun : ℕ) → room_at d lun ≤ room_at (with_room_of d lun) lun
with-least d lun = least-for d lun (unit_at d.target.units lun)

-- ---- what the calls for one log ask and make

pub there-of : (o : Option LogicalUnit) (r : RigUnit) (P : LogicalUnit → Type 0) → Some r ≡ rig_of o → ((u : LogicalUnit) → o ≡ Some u → P u) → IsThere o P
there-of (Some u) r P e f = f u refl
there-of None r P e f = cc

none-of : (o : Option LogicalUnit) → None ≡ rig_of o → o ≡ None
none-of (Some u) e = cc
none-of None e = refl

some-is : (o : Option LogicalUnit) (u : LogicalUnit) (P : LogicalUnit → Type 0) → IsThere o P → o ≡ Some u → P u
some-is (Some v) u P h e = let same : v ≡ u = cc in subst P same h
some-is None u P h e = cc

-- without a unit nothing is made
pub made-none : (d : DeviceState) (lun : ℕ) → None ≡ rig_of (unit_at d.target.units lun) → RoomMade d lun 0 d
made-none d lun e =
    let none = none-of (unit_at d.target.units lun) e in
    record {
      made = sym (ap (λ (o : Option LogicalUnit). with_room_for d lun o) none);
      before = record { room = λ u h. absurd (let f : None ≡ Some u = sym none ∙ h in cc); fits = λ u h. absurd (let f : None ≡ Some u = sym none ∙ h in cc) };
    }

rig-is : (o : Option LogicalUnit) (r : RigUnit) → Some r ≡ rig_of o → (u : LogicalUnit) × (o ≡ Some u) × (r ≡ u.rig)
rig-is (Some u) r e = let same : r ≡ u.rig = cc in (u, refl, same)
rig-is None r e = cc

pub made-some : (d new : DeviceState) (lun room n : ℕ) (r : RigUnit) → Some r ≡ rig_of (unit_at d.target.units lun) → room ≡ room_at d lun → IsThere (unit_at d.target.units lun) (λ u. length u.log ≤ room)
    → n ≡ reserve_of r → new ≡ device_reserved d lun n → RoomMade d lun room new
made-some d new lun room n r e h fits m is =
    let there = rig-is (unit_at d.target.units lun) r e in
    record {
      made = is ∙ ap (λ (k : ℕ). device_reserved d lun k) (m ∙ ap reserve_of there.2) ∙ sym (ap (λ (o : Option LogicalUnit). with_room_for d lun o) there.1);
      before = record { room = λ u g. h; fits = λ u g. some-is (unit_at d.target.units lun) u (λ (x : LogicalUnit). length x.log ≤ room) fits g };
    }

pub room-some : (d : DeviceState) (lun room : ℕ) → room ≡ room_at d lun → IsThere (unit_at d.target.units lun) (λ u. length u.log ≤ room) → IsRoomOf d lun room
room-some d lun room e f = record { room = λ u h. e; fits = λ u h. some-is (unit_at d.target.units lun) u (λ (x : LogicalUnit). length x.log ≤ room) f h }

pub room-none : (d : DeviceState) (lun : ℕ) → None ≡ rig_of (unit_at d.target.units lun) → IsRoomOf d lun 0
room-none d lun e = (made-none d lun e).before

unit-same : (d new : DeviceState) (lun room : ℕ) → RoomMade d lun room new → unit_at new.target.units lun ≡ unit_at d.target.units lun
unit-same d new lun room m = ap (λ (x : DeviceState). unit_at x.target.units lun) m.made ∙ ap (λ (t : _). unit_at t.units lun) (with-target d lun)

pub can-lower : (d new : DeviceState) (lun room : ℕ) (r : RigUnit) → RoomMade d lun room new → Some r ≡ rig_of (unit_at new.target.units lun)
    → IsThere (unit_at new.target.units lun) (λ u. (length u.log ≤ room) × (room ≤ room_at new lun))
can-lower d new lun room r m e =
    there-of (unit_at new.target.units lun) r (λ u. (length u.log ≤ room) × (room ≤ room_at new lun)) e (λ u h.
    let g = sym (unit-same d new lun room m) ∙ h in
    let is = m.before.room u g in
    let least = with-least d lun in
    let now = ap (λ (x : DeviceState). room_at x lun) m.made in
    (m.before.fits u g, omega (arith, is, least, now)))

pub given-back : (d new after : DeviceState) (lun room : ℕ) (r : RigUnit) → RoomMade d lun room new → Some r ≡ rig_of (unit_at new.target.units lun) → after ≡ device_lowered new lun room → after ≡ d
given-back d new after lun room r m e a =
    let there = rig-is (unit_at new.target.units lun) r e in
    a ∙ ap (λ (x : DeviceState). device_lowered x lun room) m.made ∙ ap (λ (k : ℕ). device_lowered (with_room_of d lun) lun k) (m.before.room there.0 (sym (unit-same d new lun room m) ∙ there.1))
    ∙ lowered-back d lun

pub none-made : (d new : DeviceState) (lun room : ℕ) → RoomMade d lun room new → None ≡ rig_of (unit_at new.target.units lun) → new ≡ d
none-made d new lun room m e =
    m.made ∙ ap (λ (o : Option LogicalUnit). with_room_for d lun o) (sym (unit-same d new lun room m) ∙ none-of (unit_at new.target.units lun) e)

-- ---- the logs below a LUN

pub below : {D : Type 0} → (D → ℕ → D) → ℕ → D → D
below f zero d = d
below f (suc n) d = f (below f n d) n

pub below-none : {D : Type 0} (f : D → ℕ → D) (d : D) → below f 0 d ≡ d
unfolding below
below-none f d = refl

pub below-eight : {D : Type 0} (f : D → ℕ → D) (d : D) → fold f d (range_with_len 0 8) ≡ below f 8 d
unfolding below
below-eight f d = refl

pub below-more : {D : Type 0} (f : D → ℕ → D) (d : D) (n m : ℕ) → m ≡ suc n → below f m d ≡ f (below f n d) n
unfolding below
below-more {D} f d n m e = ap (λ (k : ℕ). below f k d) e

below-target : (n : ℕ) (d : DeviceState) → (below with_room_of n d).target ≡ d.target
unfolding below
below-target zero d = refl
below-target (suc n) d = with-target (below with_room_of n d) n ∙ below-target n d

below-unit : (n : ℕ) (d : DeviceState) (lun : ℕ) → unit_at (below with_room_of n d).target.units lun ≡ unit_at d.target.units lun
below-unit n d lun = ap (λ (t : _). unit_at t.units lun) (below-target n d)

below-rooms : (n : ℕ) (d : DeviceState) → length (below with_room_of n d).rooms ≡ length d.rooms
unfolding below
below-rooms zero d = refl
below-rooms (suc n) d = with-rooms (below with_room_of n d) n ∙ below-rooms n d

below-after : (n : ℕ) (d : DeviceState) (k : ℕ) → n ≤ k → room_at (below with_room_of n d) k ≡ room_at d k
unfolding below
below-after zero d k l = refl
below-after (suc n) d k l = with-other (below with_room_of n d) n k (λ e. omega (arith, l, e)) ∙ below-after n d k (omega (arith, l))

here-or-below : (n k : ℕ) → k < suc n → k ≢ n → k < n
here-or-below n k l e = grind (arith, e)

at-last : (n : ℕ) (d : DeviceState) (u : LogicalUnit) → n < length d.rooms → unit_at d.target.units n ≡ Some u → length u.log + reserve_of u.rig ≤ room_at (with_room_of (below with_room_of n d) n) n
at-last n d u l e =
    let here = with-here (below with_room_of n d) n u (below-unit n d n ∙ e) (let r = below-rooms n d in omega (arith, r, l)) in
    omega (arith, here)

below-at : (n : ℕ) (d : DeviceState) (k : ℕ) (u : LogicalUnit) → k < length d.rooms → unit_at d.target.units k ≡ Some u → (k ≡ n) ⊎ (k ≢ n)
    → (k ≢ n → length u.log + reserve_of u.rig ≤ room_at (below with_room_of n d) k) → length u.log + reserve_of u.rig ≤ room_at (with_room_of (below with_room_of n d) n) k
below-at n d k u l e (inl same) f =
    subst (λ (x : ℕ). length u.log + reserve_of u.rig ≤ room_at (with_room_of (below with_room_of n d) n) x) (sym same)
    (at-last n d u (subst (λ (x : ℕ). x < length d.rooms) same l) (subst (λ (x : ℕ). unit_at d.target.units x ≡ Some u) same e))
below-at n d k u l e (inr other) f = let same = with-other (below with_room_of n d) n k other in let h = f other in omega (arith, same, h)

below-here : (n : ℕ) (d : DeviceState) (k : ℕ) (u : LogicalUnit) → k < n → k < length d.rooms → unit_at d.target.units k ≡ Some u → length u.log + reserve_of u.rig ≤ room_at (below with_room_of n d) k
unfolding below
below-here zero d k u b l e = absurd (omega (arith, b))
below-here (suc n) d k u b l e = below-at n d k u l e (same_or_not k n) (λ other. below-here n d k u (here-or-below n k b other) l e)

-- ---- the logs of a device

pub room-target : (d : DeviceState) → (with_room d).target ≡ d.target
room-target d = ap (λ (x : DeviceState). x.target) (below-eight with_room_of d) ∙ below-target 8 d

pub room-rooms : (d : DeviceState) → length (with_room d).rooms ≡ length d.rooms
room-rooms d = ap (λ (x : DeviceState). length x.rooms) (below-eight with_room_of d) ∙ below-rooms 8 d

pub room-here : (d : DeviceState) (k : ℕ) (u : LogicalUnit) → k < 8 → k < length d.rooms → unit_at d.target.units k ≡ Some u → length u.log + reserve_of u.rig ≤ room_at (with_room d) k
room-here d k u b l e = subst (λ (x : DeviceState). length u.log + reserve_of u.rig ≤ room_at x k) (sym (below-eight with_room_of d)) (below-here 8 d k u b l e)

-- the room that the next log had before
pub next-made : (d new : DeviceState) (rooms : List ℕ) (n m : ℕ) → AreRoomsOf d rooms → n < 8 → m ≡ suc n → new ≡ below with_room_of m d → RoomMade (below with_room_of n d) n (slice_index_or rooms n 0) new
next-made d new rooms n m are l e is =
    let a = are n l in
    record {
      made = is ∙ below-more with_room_of d n m e;
      before = record {
        room = λ u h. a.room u (sym (below-unit n d n) ∙ h) ∙ sym (below-after n d n (omega arith));
        fits = λ u h. a.fits u (sym (below-unit n d n) ∙ h);
      };
    }
