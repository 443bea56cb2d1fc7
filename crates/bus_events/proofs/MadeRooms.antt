-- The room that is made for all units suffices.
use Rattle.std.proofs.Common.{◌≡◌, ◌≢◌, ℕ, zero, suc, ◌+◌, ◌≤◌, ◌<◌, nat_lt, Bool, true, false, List, [], ◌∷◌, length, map, slice_index_or, slice_set, refl, ap, arith, sym, ◌∙◌, Option, Some, None, ◌⊎◌, inl, inr}
use Rattle.std.specs.Prelude.{fold}
use Rattle.std.specs.List.{range_with_len}
use Rattle.std.proofs.lemmas.Bool.Decides.{nat_tests}
use Rattle.std.proofs.lemmas.List.{length-set, length-map, get_or-set_same, set_past}
use Rattle.rig_types.specs.declared.rig.Unit.{Unit as RigUnit}
use Rattle.unit_law.proofs.Views.{same_or_not}
use Rattle.target_law.specs.Target.{LogicalUnit, Target, unit_at, target_reset}
use Rattle.target_law.specs.Devices.{DeviceState, room_at, reserved_for, device_reserved}
use Rattle.target_law.proofs.Rooms.{device_reserved-target, device_reserved-here, device_reserved-other}
use Rattle.bus_law.specs.Bus.{BusState, no_device, device_at, device_reset, bus_reset}
use Rattle.bus_law.specs.Rooms.{reserve_of, with_room_for, with_room_of, with_room, with_room_at, with_all_room}
use Rattle.ticket_fate.proofs.Reached.{all-kept}
use Rattle.std.proofs.lemmas.Option.{same_Some}
use Rattle.ticket_room.specs.Rooms.{HasLog}
use Rattle.ticket_room.proofs.Reserves.{reserves-suffice}
use Rattle.bus_events.specs.Targets.{targets}
use Rattle.ticket_fate.specs.Tickets.{Plan, Ticket}
use Rattle.bus_events.specs.BusResets.{HasPlaces, RoomIsMade}
use Rattle.bus_events.proofs.KeptRooms.{where-rooms}
use Rattle.bus_events.proofs.CallsMove.{unit-stands}

funext : {A B : Type 0} (f h : A → B) → ((x : A) → f x ≡ h x) → f ≡ h
funext f h p = λ i. λ x. p x i

-- ---- one log of a device gets room
for-target : (d : DeviceState) (lun : ℕ) (o : Option LogicalUnit) → (with_room_for d lun o).target ≡ d.target
for-target d lun None = refl
for-target d lun (Some u) = device_reserved-target d lun (reserve_of u.rig)

of-target : (d : DeviceState) (lun : ℕ) → (with_room_of d lun).target ≡ d.target
of-target d lun = for-target d lun (unit_at d.target.units lun)

reserved-length : (o : Option LogicalUnit) (d : DeviceState) (lun n : ℕ) → length (reserved_for d lun n o).rooms ≡ length d.rooms
reserved-length None d lun n = refl
reserved-length (Some u) d lun n = length-set d.rooms lun _

for-length : (d : DeviceState) (lun : ℕ) (o : Option LogicalUnit) → length (with_room_for d lun o).rooms ≡ length d.rooms
unfolding device_reserved
for-length d lun None = refl
for-length d lun (Some u) = reserved-length (unit_at d.target.units lun) d lun (reserve_of u.rig)

of-length : (d : DeviceState) (lun : ℕ) → length (with_room_of d lun).rooms ≡ length d.rooms
of-length d lun = for-length d lun (unit_at d.target.units lun)

-- no room becomes less
for-grows : (d : DeviceState) (at lun : ℕ) (o : Option LogicalUnit) → unit_at d.target.units at ≡ o → lun < length d.rooms → room_at d lun ≤ room_at (with_room_for d at o) lun
for-grows d at lun None e l = omega arith
for-grows d at lun (Some u) e l = by (same_or_not lun at)
  where
    by : (lun ≡ at) ⊎ (lun ≢ at) → room_at d lun ≤ room_at (with_room_for d at (Some u)) lun
    by (inl q) =
        let here = device_reserved-here d lun (reserve_of u.rig) u (ap (unit_at d.target.units) q ∙ e) l in
        let same = ap (λ k. room_at (device_reserved d k (reserve_of u.rig)) lun) q in
        omega (arith, here, same)
    by (inr n) = omega (arith, device_reserved-other d at (reserve_of u.rig) lun n)

of-grows : (d : DeviceState) (at lun : ℕ) → lun < length d.rooms → room_at d lun ≤ room_at (with_room_of d at) lun
of-grows d at lun l = for-grows d at lun (unit_at d.target.units at) refl l

-- ---- the logs of some LUNs
all-target : (luns : List ℕ) (d : DeviceState) → (fold with_room_of d luns).target ≡ d.target
all-target [] d = refl
all-target (x ∷ xs) d = all-target xs (with_room_of d x) ∙ of-target d x

all-grow : (luns : List ℕ) (d : DeviceState) (lun : ℕ) → lun < length d.rooms → room_at d lun ≤ room_at (fold with_room_of d luns) lun
all-grow [] d lun l = omega arith
all-grow (x ∷ xs) d lun l = omega (arith, of-grows d x lun l, all-grow xs (with_room_of d x) lun (omega (arith, l, of-length d x)))

module _ (lun : ℕ) (u : LogicalUnit) where
  abbrev most : ℕ
  most = length u.log + reserve_of u.rig

  own-room : (d : DeviceState) → unit_at d.target.units lun ≡ Some u → lun < length d.rooms → most ≤ room_at (with_room_of d lun) lun
  own-room d e l =
      let same = ap (λ o. room_at (with_room_for d lun o) lun) e in
      omega (arith, same, device_reserved-here d lun (reserve_of u.rig) u e l)

  among : (from n : ℕ) (d : DeviceState) → unit_at d.target.units lun ≡ Some u → lun < length d.rooms → from ≤ lun → lun < from + n → most ≤ room_at (fold with_room_of d (range_with_len from n)) lun
  among from zero d e l a z = absurd (omega (arith, a, z))
  among from (suc n) d e l a z = by (same_or_not from lun) (λ below. among (from + 1) n (with_room_of d from) (ap (λ (t : Target). unit_at t.units lun) (of-target d from) ∙ e) (omega (arith, l, of-length d from)) below (omega (arith, z)))
    where
      by : (from ≡ lun) ⊎ (from ≢ lun) → (from + 1 ≤ lun → most ≤ room_at (fold with_room_of (with_room_of d from) (range_with_len (from + 1) n)) lun)
          → most ≤ room_at (fold with_room_of (with_room_of d from) (range_with_len (from + 1) n)) lun
      by (inl q) rest =
          let same = ap (λ k. room_at (with_room_of d k) lun) q in
          omega (arith, same, own-room d e l, all-grow (range_with_len (from + 1) n) (with_room_of d from) lun (omega (arith, l, of-length d from)))
      by (inr d) rest = rest (more from lun a d)
        where
          more : (a c : ℕ) → a ≤ c → a ≢ c → a + 1 ≤ c
          more a c l d = grind arith

-- ---- all devices
room-target : (ds : List DeviceState) (i : ℕ) → (slice_index_or (map with_room ds) i no_device).target ≡ (slice_index_or ds i no_device).target
room-target [] i = refl
room-target (d ∷ ds) zero = all-target (range_with_len 0 8) d
room-target (d ∷ ds) (suc i) = room-target ds i

device-room : (ds : List DeviceState) (i lun : ℕ) (u : LogicalUnit) → i < length ds → unit_at (slice_index_or ds i no_device).target.units lun ≡ Some u → length (slice_index_or ds i no_device).rooms ≡ 8 → lun < 8
    → length u.log + reserve_of u.rig ≤ room_at (slice_index_or (map with_room ds) i no_device) lun
device-room [] i lun u k e l less = absurd (omega (arith, k))
device-room (d ∷ ds) zero lun u k e l less = among lun u 0 8 d e (omega (arith, l, less)) (omega arith) (omega (arith, less))
device-room (d ∷ ds) (suc i) lun u k e l less = device-room ds i lun u (omega (arith, k)) e l less

-- ---- the devices with room at one target
all-length : (luns : List ℕ) (d : DeviceState) → length (fold with_room_of d luns).rooms ≡ length d.rooms
all-length [] d = refl
all-length (x ∷ xs) d = all-length xs (with_room_of d x) ∙ of-length d x

set-stays : {A : Type 0} (f : DeviceState → A) (ds : List DeviceState) (i : ℕ) (d : DeviceState) → f d ≡ f (slice_index_or ds i no_device) → (k : ℕ) → f (slice_index_or (slice_set ds i d) k no_device) ≡ f (slice_index_or ds k no_device)
set-stays f [] i d e k = refl
set-stays f (x ∷ xs) zero d e zero = e
set-stays f (x ∷ xs) zero d e (suc k) = refl
set-stays f (x ∷ xs) (suc i) d e zero = refl
set-stays f (x ∷ xs) (suc i) d e (suc k) = set-stays f xs i d e k

targets-stay : (b : BusState) (i : ℕ) → targets (with_room_at b i) ≡ targets b
targets-stay b i = funext (targets (with_room_at b i)) (targets b) (λ k. set-stays (λ (d : DeviceState). d.target) b.devices i (with_room (device_at b i)) (all-target (range_with_len 0 8) (device_at b i)) k)

set-grows : (ds : List DeviceState) (i : ℕ) (d : DeviceState) (lun : ℕ) → room_at (slice_index_or ds i no_device) lun ≤ room_at d lun → (k : ℕ) → room_at (slice_index_or ds k no_device) lun ≤ room_at (slice_index_or (slice_set ds i d) k no_device) lun
set-grows [] i d lun e k = omega arith
set-grows (x ∷ xs) zero d lun e zero = e
set-grows (x ∷ xs) zero d lun e (suc k) = omega arith
set-grows (x ∷ xs) (suc i) d lun e zero = omega arith
set-grows (x ∷ xs) (suc i) d lun e (suc k) = set-grows xs i d lun e k

below-or : (x n : ℕ) → (x < n) ⊎ (n ≤ x)
below-or x n = by (nat_lt x n) refl
  where
    by : (b : Bool) → nat_lt x n ≡ b → (x < n) ⊎ (n ≤ x)
    by true e = inl (grind (arith, nat_tests))
    by false e = inr (grind (arith, nat_tests))

no-less : (b : BusState) (i : ℕ) (lun : ℕ) → lun < 8 → ((k : ℕ) → k < length b.devices → length (device_at b k).rooms ≡ 8) → (k : ℕ) → room_at (device_at b k) lun ≤ room_at (device_at (with_room_at b i) k) lun
no-less b i lun l places k = by (below-or i (length b.devices))
  where
    by : (i < length b.devices) ⊎ (length b.devices ≤ i) → room_at (device_at b k) lun ≤ room_at (device_at (with_room_at b i) k) lun
    by (inl a) = let size = places i a in set-grows b.devices i (with_room (device_at b i)) lun (all-grow (range_with_len 0 8) (device_at b i) lun (omega (arith, l, size))) k
    by (inr a) = let same = ap (λ ds. room_at (slice_index_or ds k no_device) lun) (set_past b.devices i (with_room (device_at b i)) a) in omega (arith, same)

map-rooms : (f : DeviceState → DeviceState) → ((d : DeviceState) → length (f d).rooms ≡ length d.rooms) → (ds : List DeviceState) (i : ℕ) → i < length ds → length (slice_index_or (map f ds) i no_device).rooms ≡ length (slice_index_or ds i no_device).rooms
map-rooms f e [] i l = absurd (omega (arith, l))
map-rooms f e (d ∷ ds) zero l = e d
map-rooms f e (d ∷ ds) (suc i) l = map-rooms f e ds i (omega (arith, l))

places-at : (g : Plan) (units : List RigUnit) (b : BusState) → HasPlaces g units b → (i : ℕ) → HasPlaces g units (with_room_at b i)
places-at g units b h i = record {
  rooms = λ k l.
      set-stays (λ (d : DeviceState). length d.rooms) b.devices i (with_room (device_at b i)) (all-length (range_with_len 0 8) (device_at b i)) k
      ∙ h.rooms k (omega (arith, l, length-set b.devices i (with_room (device_at b i))));
  luns = h.luns;
}

places-by : (g : Plan) (units : List RigUnit) (b : BusState) (f : DeviceState → DeviceState) → ((d : DeviceState) → length (f d).rooms ≡ length d.rooms) → (new : BusState) → new.devices ≡ map f b.devices → HasPlaces g units b → HasPlaces g units new
places-by g units b f e new made h = record {
  rooms = λ k l.
      let m : k < length b.devices = omega (arith, l, ap length made, length-map b.devices f) in
      ap (λ ds. length (slice_index_or ds k no_device).rooms) made ∙ map-rooms f e b.devices k m ∙ h.rooms k m;
  luns = h.luns;
}

pub room-is-made : RoomIsMade
room-is-made = record {
  all = λ g units b ks built j places live.
      let same : targets (with_all_room b) ≡ targets b = funext (targets (with_all_room b)) (targets b) (λ i. room-target b.devices i) in (
        λ n less u there.
            let i = (g.units n).target in
            let lun = (g.units n).lun in
            let own : HasLog g n (targets b) u = ap (λ (f : ℕ → Target). unit_at (f i).units lun) (sym same) ∙ there in
            let range = unit-stands b.devices i lun u own in
            let kept = ((all-kept g (length units) ks (targets b) j.reached).each i).units n less refl in
            let rig = ap (λ (w : LogicalUnit). w.rig) (sym (same_Some kept.0 u (sym kept.1 ∙ own))) ∙ kept.2.rig in
            let room = device-room b.devices i lun u range own (places.rooms i range) (places.luns n less) in
            let reserve = ap reserve_of rig in
            reserves-suffice.reserved g n built ks u.log (room_at (device_at (with_all_room b) i) lun) (live n less) (omega (arith, room, reserve)),
        same,
      );
  one = λ g units b ks built i j places range n less q live u there.
      let lun = (g.units n).lun in
      let d = device_at b i in
      let here : device_at (with_room_at b i) i ≡ with_room d = get_or-set_same b.devices i (with_room d) no_device range in
      let at : device_at (with_room_at b i) (g.units n).target ≡ with_room d = ap (device_at (with_room_at b i)) q ∙ here in
      let own : unit_at d.target.units lun ≡ Some u =
      ap (λ (t : Target). unit_at t.units lun) (sym (ap (λ (y : DeviceState). y.target) at ∙ all-target (range_with_len 0 8) d)) ∙ there in
      let kept = ((all-kept g (length units) ks (targets b) j.reached).each i).units n less q in
      let rig = ap (λ (w : LogicalUnit). w.rig) (sym (same_Some kept.0 u (sym kept.1 ∙ own))) ∙ kept.2.rig in
      let size = places.rooms i range in
      let short = places.luns n less in
      let room = among lun u 0 8 d own (omega (arith, size, short)) (omega arith) (omega (arith, short)) in
      let reserve = ap reserve_of rig in
      let same = ap (λ (y : DeviceState). room_at y lun) at in
      reserves-suffice.reserved g n built ks u.log (room_at (device_at (with_room_at b i) (g.units n).target) lun) live (omega (arith, room, reserve, same));
  same = targets-stay;
  grows = λ g units b i h n less. no-less b i (g.units n).lun (h.luns n less) h.rooms (g.units n).target;
  places = λ g units b h. (
    places-at g units b h,
    places-by g units b with_room (λ d. all-length (range_with_len 0 8) d) (with_all_room b) refl h,
    places-by g units b device_reset (λ d. ap length (where-rooms d (target_reset d.target))) (bus_reset b) refl h,
  );
}
