-- Room made in the logs of a target or of all, seen from the bus.
use Rattle.std.proofs.Common.{◌≡◌, ◌≢◌, ◌<◌, ◌≤◌, ◌+◌, ◌-◌, ◌*◌, ◌/◌, ◌%◌, ℕ, zero, suc, List, [], ◌∷◌, length, map, fold, slice_set, slice_index_or, Option, Some, None, refl, sym, ap, subst, ◌∙◌, ◌⊎◌, inl, inr, arith, OnOk, OnErr, Result, Ok, Err}
use Rattle.std.specs.List.{range_with_len}
use Rattle.std.proofs.lemmas.List.{length-set, length-map}
use Rattle.target_law.specs.Target.{LogicalUnit, Target, unit_at, target_reset}
use Rattle.target_law.specs.Calls.{is_free, WaitsForAck}
use Rattle.target_law.specs.Devices.{DeviceState, lie_within}
use Rattle.target_law.proofs.ResetRooms.{reset-lies}
use Rattle.scsi_target.specs.Devices.{KeepsPlaces}
use Rattle.bus_law.specs.Bus.{BusState, no_device, device_at, device_of, with_device}
use Rattle.bus_law.specs.Laws.{HasResetRoom}
use Rattle.bus_law.specs.Rooms.{with_room_of, with_room, with_room_at, with_all_room}
use Rattle.target_bus.specs.Fields.{IsHeldBus}
use Rattle.target_bus.specs.Rooms.{with_room_in, with_rooms_from, WasReserved}
use Rattle.target_bus.proofs.LogRooms.{set-back, with-target, room-target, room-rooms, room-here}

-- ---- each device has the target that it had

abbrev pub SameTargets : List DeviceState → List DeviceState → Type 0
SameTargets ds es = (id : ℕ) → (slice_index_or es id no_device).target ≡ (slice_index_or ds id no_device).target

set-same : (ds : List DeviceState) (k : ℕ) (x : DeviceState) → x.target ≡ (slice_index_or ds k no_device).target → SameTargets ds (slice_set ds k x)
set-same [] k x e id = refl
set-same (d ∷ ds) zero x e zero = e
set-same (d ∷ ds) zero x e (suc id) = refl
set-same (d ∷ ds) (suc k) x e zero = refl
set-same (d ∷ ds) (suc k) x e (suc id) = set-same ds k x e id

one-same : (ds : List DeviceState) (place : ℕ) → SameTargets ds (with_room_in ds place)
one-same ds place = set-same ds (place / 8) _ (with-target (slice_index_or ds (place / 8) no_device) (place % 8))

all-same : (places : List ℕ) (ds : List DeviceState) → SameTargets ds (fold with_room_in ds places)
all-same [] ds id = refl
all-same (p ∷ ps) ds id = all-same ps (with_room_in ds p) id ∙ one-same ds p id

all-length : (places : List ℕ) (ds : List DeviceState) → length (fold with_room_in ds places) ≡ length ds
all-length [] ds = refl
all-length (p ∷ ps) ds = all-length ps (with_room_in ds p) ∙ length-set ds (p / 8) _

-- so the bus keeps what it keeps
link-same : (b : BusState) (ds : List DeviceState) (o : Option ℕ) → SameTargets b.devices ds → (device_of (record b { devices = ds }) o).target.link ≡ (device_of b o).target.link
link-same b ds None s = refl
link-same b ds (Some id) s = ap (λ (t : Target). t.link) (s id)

same-held : (n m : ℕ) (b : BusState) (ds : List DeviceState) → IsHeldBus n b → length ds ≡ length b.devices → SameTargets b.devices ds → m ≡ n → IsHeldBus m (record b { devices = ds })
same-held n m b ds h l s e = record {
  counted = e ∙ h.counted;
  seven = l ∙ h.seven;
  one = record {
    connected = λ id c. ap (λ (t : Target). is_free t.link) (s id) ∙ h.one.connected id c;
    others = λ id c. ap (λ (t : Target). is_free t.link) (s id) ∙ h.one.others id c;
  };
  acknowledges = λ a. subst WaitsForAck (sym (link-same b ds b.connected s)) (h.acknowledges a);
}

pub made-held : (n m : ℕ) (b : BusState) (place count : ℕ) → IsHeldBus n b → m ≡ n → IsHeldBus m (record b { devices = with_rooms_from b.devices place count })
made-held n m b place count h e =
    same-held n m b (with_rooms_from b.devices place count) h (all-length (range_with_len place count) b.devices) (all-same (range_with_len place count) b.devices) e

pub set-held : (n m : ℕ) (b : BusState) (k : ℕ) (x : DeviceState) → IsHeldBus n b → x.target ≡ (device_at b k).target → m ≡ n → IsHeldBus m (with_device b k x)
set-held n m b k x h t e = same-held n m b (slice_set b.devices k x) h (length-set b.devices k x) (set-same b.devices k x t) e

-- ---- the logs of all targets, and of one

abbrev step : {D : Type 0} → (D → ℕ → D) → D → List D → ℕ → List D
step f none ds place = slice_set ds (place / 8) (f (slice_index_or ds (place / 8) none) (place % 8))

abbrev whole : {D : Type 0} → (D → ℕ → D) → D → D
whole f d = fold f d (range_with_len 0 8)

all-steps : {D : Type 0} (f : D → ℕ → D) (none : D) (ds : List D) → length ds ≡ 7 → fold (step f none) ds (range_with_len 0 56) ≡ map (whole f) ds
all-steps f none (a ∷ b ∷ c ∷ d ∷ e ∷ g ∷ h ∷ []) l = refl
all-steps f none [] l = absurd (omega (arith, l))
all-steps f none (a ∷ []) l = absurd (omega (arith, l))
all-steps f none (a ∷ b ∷ []) l = absurd (omega (arith, l))
all-steps f none (a ∷ b ∷ c ∷ []) l = absurd (omega (arith, l))
all-steps f none (a ∷ b ∷ c ∷ d ∷ []) l = absurd (omega (arith, l))
all-steps f none (a ∷ b ∷ c ∷ d ∷ e ∷ []) l = absurd (omega (arith, l))
all-steps f none (a ∷ b ∷ c ∷ d ∷ e ∷ g ∷ []) l = absurd (omega (arith, l))
all-steps f none (a ∷ b ∷ c ∷ d ∷ e ∷ g ∷ h ∷ i ∷ ds) l = absurd (omega (arith, l))

-- the eight logs from this one on, where it is the first of its device
one-whole : {D : Type 0} (f : D → ℕ → D) (none : D) (ds : List D) (t : ℕ) → t < length ds → length ds ≡ 7 → fold (step f none) ds (range_with_len (t * 8) 8) ≡ slice_set ds t (whole f (slice_index_or ds t none))
one-whole f none (a ∷ b ∷ c ∷ d ∷ e ∷ g ∷ h ∷ []) zero t l = refl
one-whole f none (a ∷ b ∷ c ∷ d ∷ e ∷ g ∷ h ∷ []) (suc zero) t l = refl
one-whole f none (a ∷ b ∷ c ∷ d ∷ e ∷ g ∷ h ∷ []) (suc (suc zero)) t l = refl
one-whole f none (a ∷ b ∷ c ∷ d ∷ e ∷ g ∷ h ∷ []) (suc (suc (suc zero))) t l = refl
one-whole f none (a ∷ b ∷ c ∷ d ∷ e ∷ g ∷ h ∷ []) (suc (suc (suc (suc zero)))) t l = refl
one-whole f none (a ∷ b ∷ c ∷ d ∷ e ∷ g ∷ h ∷ []) (suc (suc (suc (suc (suc zero))))) t l = refl
one-whole f none (a ∷ b ∷ c ∷ d ∷ e ∷ g ∷ h ∷ []) (suc (suc (suc (suc (suc (suc zero)))))) t l = refl
one-whole f none (a ∷ b ∷ c ∷ d ∷ e ∷ g ∷ h ∷ []) (suc (suc (suc (suc (suc (suc (suc n))))))) t l = absurd (omega (arith, t))
one-whole f none [] n t l = absurd (omega (arith, l))
one-whole f none (a ∷ []) n t l = absurd (omega (arith, l))
one-whole f none (a ∷ b ∷ []) n t l = absurd (omega (arith, l))
one-whole f none (a ∷ b ∷ c ∷ []) n t l = absurd (omega (arith, l))
one-whole f none (a ∷ b ∷ c ∷ d ∷ []) n t l = absurd (omega (arith, l))
one-whole f none (a ∷ b ∷ c ∷ d ∷ e ∷ []) n t l = absurd (omega (arith, l))
one-whole f none (a ∷ b ∷ c ∷ d ∷ e ∷ g ∷ []) n t l = absurd (omega (arith, l))
one-whole f none (a ∷ b ∷ c ∷ d ∷ e ∷ g ∷ h ∷ i ∷ ds) n t l = absurd (omega (arith, l))

pub all-room : (b : BusState) → length b.devices ≡ 7 → record b { devices = with_rooms_from b.devices 0 56 } ≡ with_all_room b
all-room b l = ap (λ (ds : List DeviceState). record b { devices = ds }) (all-steps with_room_of no_device b.devices l)

pub room-at : (b : BusState) (t : ℕ) → length b.devices ≡ 7 → t < 7 → record b { devices = with_rooms_from b.devices (t * 8) 8 } ≡ with_room_at b t
room-at b t l h = ap (λ (ds : List DeviceState). record b { devices = ds }) (one-whole with_room_of no_device b.devices t (omega (arith, l, h)) l)

-- ---- one log, and then the others

pub one-then : (ds : List DeviceState) (place end : ℕ) → place ≢ end → place ≤ end → with_rooms_from ds place (end - place) ≡ with_rooms_from (with_room_in ds place) (place + 1) (end - (place + 1))
one-then ds place end n l = ap (λ (k : ℕ). with_rooms_from ds place k) (let e : end - place ≡ suc (end - (place + 1)) = grind (arith, n) in e)

pub none-left : (ds : List DeviceState) (place end : ℕ) → place ≡ end → with_rooms_from ds place (end - place) ≡ ds
none-left ds place end e = ap (λ (k : ℕ). with_rooms_from ds place k) (let z : end - place ≡ 0 = omega (arith, e) in z)

-- a device that was read in its place
pub read-any : {D : Type 0} (ds : List D) (k : ℕ) (x y : D) → k < length ds → x ≡ slice_index_or ds k x → x ≡ slice_index_or ds k y
read-any [] k x y l e = absurd (omega (arith, l))
read-any (d ∷ ds) zero x y l e = e
read-any (d ∷ ds) (suc k) x y l e = read-any ds k x y (omega (arith, l)) e

pub read-set : {D : Type 0} (ds : List D) (k : ℕ) (x y : D) → k < length ds → x ≡ slice_index_or (slice_set ds k y) k x → x ≡ y
read-set [] k x y l e = absurd (omega (arith, l))
read-set (d ∷ ds) zero x y l e = e
read-set (d ∷ ds) (suc k) x y l e = read-set ds k x y (omega (arith, l)) e

-- the room that was made in one log is given back
pub undone : (items rest : List DeviceState) (k : ℕ) (d made x back : DeviceState) → k < length items → d ≡ slice_index_or items k d → rest ≡ slice_set items k made → x ≡ slice_index_or rest k x → (x ≡ made → back ≡ d)
    → slice_set rest k back ≡ items
undone items rest k d made x back l e r h f =
    let is : back ≡ slice_index_or items k no_device = f (read-set items k x made l (h ∙ ap (λ (ds : List DeviceState). slice_index_or ds k x) r)) ∙ read-any items k d no_device l e in
    ap (λ (ds : List DeviceState). slice_set ds k back) r ∙ ap (λ (y : DeviceState). slice_set (slice_set items k made) k y) is ∙ set-back items k made no_device

-- ---- room is given back

pub give-back : (b now : BusState) (t : ℕ) (x : DeviceState) (rooms : List ℕ) → WasReserved b t rooms now → x ≡ device_at b t → with_device now t x ≡ b
give-back b now t x rooms r e =
    ap (λ (c : BusState). with_device c t x) r.made ∙ ap (λ (y : DeviceState). with_device (with_room_at b t) t y) e
    ∙ ap (λ (ds : List DeviceState). record b { devices = ds }) (set-back b.devices t (with_room (device_at b t)) no_device)

pub reserved-here : (b now : BusState) (t : ℕ) (rooms : List ℕ) (x : DeviceState) → WasReserved b t rooms now → length now.devices ≡ 7 → t < 7 → x ≡ slice_index_or now.devices t x → x ≡ with_room (device_at b t)
reserved-here b now t rooms x r l h e =
    let ds : now.devices ≡ slice_set b.devices t (with_room (device_at b t)) = ap (λ (c : BusState). c.devices) r.made in
    let n : length now.devices ≡ length b.devices = ap length ds ∙ length-set b.devices t (with_room (device_at b t)) in
    read-set b.devices t x (with_room (device_at b t)) (omega (arith, n, l, h)) (e ∙ ap (λ (ys : List DeviceState). slice_index_or ys t x) ds)

-- ---- a reset has room

some-within : (us : List (Option LogicalUnit)) (lun : ℕ) (u : LogicalUnit) → unit_at us lun ≡ Some u → lun < length us
unfolding unit_at
some-within [] lun u e = cc
some-within (x ∷ us) zero u e = omega arith
some-within (x ∷ us) (suc lun) u e = let l = some-within us lun u e in omega (arith, l)

depth-fits : (depth refusals : ℕ) → depth + 1 ≤ depth * (refusals + 3) + 2
depth-fits depth refusals = grind arith

device-fits : (d : DeviceState) → KeepsPlaces (with_room d) → HasResetRoom (with_room d)
device-fits d k =
    reset-lies (with_room d) k.few (λ lun u e.
    let l = some-within (with_room d).target.units lun u e in
    let units = k.units in
    let rooms = room-rooms d in
    let eight = k.rooms in
    let here = room-here d lun u (omega (arith, l, units)) (omega (arith, l, units, rooms, eight)) (sym (ap (λ (t : Target). unit_at t.units lun) (room-target d)) ∙ e) in
    let fits = depth-fits u.rig.depth u.rig.refusals in
    omega (arith, here, fits))

map-at : {D : Type 0} (f : D → D) (ds : List D) (k : ℕ) (none : D) → k < length ds → slice_index_or (map f ds) k none ≡ f (slice_index_or ds k none)
map-at f [] k none l = absurd (omega (arith, l))
map-at f (d ∷ ds) zero none l = refl
map-at f (d ∷ ds) (suc k) none l = map-at f ds k none (omega (arith, l))

map-past : {D : Type 0} (f : D → D) (ds : List D) (k : ℕ) (none : D) → length ds ≤ k → slice_index_or (map f ds) k none ≡ none
map-past f [] k none l = refl
map-past f (d ∷ ds) zero none l = absurd (omega (arith, l))
map-past f (d ∷ ds) (suc k) none l = map-past f ds k none (omega (arith, l))

no-device-fits : HasResetRoom no_device
unfolding target_reset lie_within
no-device-fits = refl

fits-by : (b : BusState) (id : ℕ) → length b.devices ≡ 7 → ((k : ℕ) → k < 7 → KeepsPlaces (device_at (with_all_room b) k)) → (id < 7) ⊎ (7 ≤ id) → HasResetRoom (device_at (with_all_room b) id)
fits-by b id l keeps (inl h) =
    let e = map-at with_room b.devices id no_device (omega (arith, l, h)) in
    subst HasResetRoom (sym e) (device-fits (device_at b id) (subst KeepsPlaces e (keeps id h)))
fits-by b id l keeps (inr h) = subst HasResetRoom (sym (map-past with_room b.devices id no_device (omega (arith, l, h)))) no-device-fits

more : (n m : ℕ) → (n < m) ⊎ (m ≤ n) → (suc n < suc m) ⊎ (suc m ≤ suc n)
more n m (inl l) = inl (omega (arith, l))
more n m (inr l) = inr (omega (arith, l))

below_or_from : (n m : ℕ) → (n < m) ⊎ (m ≤ n)
below_or_from n zero = inr (omega arith)
below_or_from zero (suc m) = inl (omega arith)
below_or_from (suc n) (suc m) = more n m (below_or_from n m)

pub all-fit : (b : BusState) → length b.devices ≡ 7 → ((k : ℕ) → k < 7 → KeepsPlaces (device_at (with_all_room b) k)) → (id : ℕ) → HasResetRoom (device_at (with_all_room b) id)
all-fit b l keeps id = fits-by b id l keeps (below_or_from id 7)

pub all-fit-now : (b now : BusState) → now ≡ with_all_room b → length now.devices ≡ 7 → ((k : ℕ) → k < 7 → KeepsPlaces (device_at now k)) → (id : ℕ) → HasResetRoom (device_at now id)
all-fit-now b now e l keeps id =
    let n : length now.devices ≡ length b.devices = ap (λ (c : BusState). length c.devices) e ∙ length-map b.devices with_room in
    subst (λ (c : BusState). HasResetRoom (device_at c id)) (sym e) (all-fit b (omega (arith, n, l)) (λ k h. subst (λ (c : BusState). KeepsPlaces (device_at c k)) e (keeps k h)) id)

-- ---- of a call that answers

pub on-ok : {T E P Q : Type 0} (r : Result T E) → (P → Q) → OnOk r P → OnOk r Q
on-ok (Ok v) f h = f h
on-ok (Err e) f h = tt

pub on-err : {T E P Q : Type 0} (r : Result T E) → (P → Q) → OnErr r P → OnErr r Q
on-err (Ok v) f h = tt
on-err (Err e) f h = f h

pub either : {T E D : Type 0} (r : Result T E) (P : D → Type 0) (new made old : D) → OnOk r (new ≡ made) → OnErr r (new ≡ old) → P made → P old → P new
either (Ok v) P new made old f g p q = subst P (sym f) p
either (Err e) P new made old f g p q = subst P (sym g) q

pub at-made : (b now : BusState) (items : List DeviceState) (t first end : ℕ) → b ≡ now → length b.devices ≡ 7 → t < 7 → first ≡ t * 8 → end ≡ first + 8 → items ≡ with_rooms_from b.devices first (end - first)
    → record b { devices = items } ≡ with_room_at now t
at-made b now items t first end v l h f e i =
    let count : end - first ≡ 8 = omega (arith, e) in
    ap (λ (ds : List DeviceState). record b { devices = ds }) (i ∙ ap (λ (k : ℕ). with_rooms_from b.devices first k) count ∙ ap (λ (k : ℕ). with_rooms_from b.devices k 8) f)
    ∙ room-at b t l h ∙ ap (λ (c : BusState). with_room_at c t) v

pub all-made : (b now : BusState) (items : List DeviceState) → b ≡ now → length b.devices ≡ 7 → items ≡ with_rooms_from b.devices 0 56 → record b { devices = items } ≡ with_all_room now
all-made b now items v l i = ap (λ (ds : List DeviceState). record b { devices = ds }) i ∙ all-room b l ∙ ap with_all_room v

pub none-changed : (b now : BusState) (items : List DeviceState) → b ≡ now → items ≡ b.devices → record b { devices = items } ≡ now
none-changed b now items v i = ap (λ (ds : List DeviceState). record b { devices = ds }) i ∙ v
