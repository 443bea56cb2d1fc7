-- The opening of a bench is an opening of the machine of tickets.
use Rattle.std.proofs.Common.{arith, ◌≡◌, ◌≢◌, ◌⊎◌, inl, inr, ◌<◌, ◌≤◌, ◌+◌, ◌==◌, ◌&&◌, nat_lt, ℕ, zero, suc, Bool, true, false, List, [], ◌∷◌, length, map, filter, replicate, slice_get, slice_index_or, Option, Some, None, refl, sym, ap, subst, ◌∙◌}
use Rattle.std.proofs.lemmas.Bool.Decides.{nat_tests}
use Rattle.std.proofs.lemmas.List.Elements.{All-get_or, filter_passes}
use Rattle.std.proofs.lemmas.List.Kept.{AllPairs-filter}
use Rattle.std.proofs.lemmas.Option.{same_Some, slice_get_within, slice_get-get_or, get_or_from_slice_get}
use Rattle.std.specs.Prelude.{fold, if◌then◌else◌}
use Rattle.std.specs.List.{AllPairs, range_with_len}
use Rattle.rig_types.specs.declared.rig.Unit.{Unit as RigUnit}
use Rattle.rig_types.specs.Ranges.{IsUnit, Agree, IsRig}
use Rattle.unit_law.specs.Log.{tally}
use Rattle.logs_have_room.specs.Room.{left, total}
use Rattle.target_law.specs.Target.{LogicalUnit, unit_at, with_unit, unit_opened, adds_unit, target_opened, BusFree, Target}
use Rattle.target_law.specs.Devices.{DeviceState, device_opened, room_at}
use Rattle.target_law.proofs.Tags.{at-with}
use Rattle.bus_law.specs.Bus.{no_device, device_at, units_of, bus_opened}
use Rattle.bus_law.proofs.OneConnected.{opens_connected}
use Rattle.desk_law.specs.Desk.{no_unit}
use Rattle.ticket_fate.specs.Tickets.{Plan}
use Rattle.ticket_fate.specs.Linked.{IsPlan}
use Rattle.ticket_fate.specs.Histories.{Run, none}
use Rattle.ticket_fate.specs.Laws.{Opens, Reached}
use Rattle.bus_events.specs.Targets.{targets}
use Rattle.bus_events.specs.TicketLaws.{AreJoined}
use Rattle.bus_events.specs.Rooms.{AreReserved}
use Rattle.bus_events.specs.BusResets.{HasPlaces}
use Rattle.world_law.specs.World.{BenchSetting, IsBenchSetting}
use Rattle.world_law.specs.Opening.{opened}
use Rattle.run_joined.specs.DeskLives.{DeskJoined}
use Rattle.run_joined.specs.Plans.{IsPlanOf}
use Rattle.run_joined.specs.Joined.{IsDeskOf, IsJoined, no_tickets, OpeningIsJoined}

-- ---- the units of a target among those of the rig

abbrev Found : (RigUnit → Bool) → List RigUnit → RigUnit → Type 0
Found p xs x = (j : ℕ) × (slice_get (filter p xs) j ≡ Some x)

first-kept : (p : RigUnit → Bool) (y : RigUnit) (ys : List RigUnit) (x : RigUnit) (b : Bool) → p y ≡ b → y ≡ x → p x ≡ true → Found p (y ∷ ys) x
first-kept p y ys x true q same h = (0, rw q (ap Some same))
first-kept p y ys x false q same h = absurd cc

rest-kept : (p : RigUnit → Bool) (y : RigUnit) (ys : List RigUnit) (x : RigUnit) (b : Bool) → p y ≡ b → Found p ys x → Found p (y ∷ ys) x
rest-kept p y ys x true q r = (suc r.0, rw q r.1)
rest-kept p y ys x false q r = (r.0, rw q r.1)

find-kept : (p : RigUnit → Bool) (xs : List RigUnit) (k : ℕ) (x : RigUnit) → slice_get xs k ≡ Some x → p x ≡ true → Found p xs x
find-kept p [] k x e h = absurd cc
find-kept p (y ∷ ys) zero x e h = let same : y ≡ x = cc in first-kept p y ys x (p y) refl same h
find-kept p (y ∷ ys) (suc k) x e h = rest-kept p y ys x (p y) refl (find-kept p ys k x e h)

-- ---- a target at its opening

length-with : (us : List (Option LogicalUnit)) (n : ℕ) (u : LogicalUnit) → length (with_unit us n u) ≡ length us
unfolding with_unit
length-with [] n u = refl
length-with (x ∷ xs) zero u = refl
length-with (x ∷ xs) (suc n) u = ap (λ (k : ℕ). suc k) (length-with xs n u)

with-here : (us : List (Option LogicalUnit)) (n : ℕ) (u : LogicalUnit) → n < length us → unit_at (with_unit us n u) n ≡ Some u
unfolding unit_at with_unit
with-here [] n u l = absurd (omega (arith, l))
with-here (x ∷ xs) zero u l = refl
with-here (x ∷ xs) (suc n) u l = with-here xs n u (omega (arith, l))

with-other : (us : List (Option LogicalUnit)) (n m : ℕ) (u : LogicalUnit) → n ≢ m → unit_at (with_unit us n u) m ≡ unit_at us m
unfolding unit_at with_unit
with-other [] n m u d = refl
with-other (x ∷ xs) zero zero u d = absurd (d refl)
with-other (x ∷ xs) zero (suc m) u d = refl
with-other (x ∷ xs) (suc n) zero u d = refl
with-other (x ∷ xs) (suc n) (suc m) u d = with-other xs n m u (λ e. d (ap (λ (k : ℕ). suc k) e))

others-added : (rs : List RigUnit) (us : List (Option LogicalUnit)) (lun : ℕ) → ((j : ℕ) (y : RigUnit) → slice_get rs j ≡ Some y → y.lun ≢ lun)
    → unit_at (fold adds_unit us rs) lun ≡ unit_at us lun
others-added [] us lun h = refl
others-added (r ∷ rs) us lun h = others-added rs (adds_unit us r) lun (λ j y e. h (suc j) y e) ∙ with-other us r.lun lun (unit_opened r) (h 0 r refl)

abbrev Distinct : List RigUnit → Type 0
Distinct rs = (i j : ℕ) (a b : RigUnit) → i < j → slice_get rs i ≡ Some a → slice_get rs j ≡ Some b → b.lun ≢ a.lun

one-added : (rs : List RigUnit) (us : List (Option LogicalUnit)) (j : ℕ) (r : RigUnit) → Distinct rs → slice_get rs j ≡ Some r → r.lun < length us
    → unit_at (fold adds_unit us rs) r.lun ≡ Some (unit_opened r)
one-added [] us j r d e l = absurd cc
one-added (x ∷ xs) us zero r d e l =
    let same : x ≡ r = cc in
    subst (λ (y : RigUnit). unit_at (fold adds_unit (adds_unit us x) xs) y.lun ≡ Some (unit_opened y)) same
    (others-added xs (adds_unit us x) x.lun (λ j y f. d 0 (suc j) x y (omega arith) refl f)
    ∙ with-here us x.lun (unit_opened x) (subst (λ (y : RigUnit). y.lun < length us) (sym same) l))
one-added (x ∷ xs) us (suc j) r d e l =
    one-added xs (adds_unit us x) j r (λ a b y z m f g. d (suc a) (suc b) y z (omega (arith, m)) f g) e
    (omega (arith, l, length-with us x.lun (unit_opened x)))

-- ---- the bus at its opening

opened-device : (units : List RigUnit) (id : ℕ) → id < 7 → device_at (bus_opened units) id ≡ device_opened (units_of units id)
opened-device units id l = by id l
  where
    f : ℕ → DeviceState
    f k = device_opened (units_of units k)

    by : (k : ℕ) → k < 7 → slice_index_or (map f (range_with_len 0 7)) k no_device ≡ f k
    by zero m = refl
    by (suc zero) m = refl
    by (suc (suc zero)) m = refl
    by (suc (suc (suc zero))) m = refl
    by (suc (suc (suc (suc zero)))) m = refl
    by (suc (suc (suc (suc (suc zero))))) m = refl
    by (suc (suc (suc (suc (suc (suc zero)))))) m = refl
    by (suc (suc (suc (suc (suc (suc (suc k))))))) m = absurd (omega (arith, m))

has-id : (id : ℕ) (rs : List RigUnit) (j : ℕ) (a : RigUnit) → slice_get (filter (λ (u : RigUnit). u.target == id) rs) j ≡ Some a → (a.target == id) ≡ true
has-id id rs j a f =
    subst (λ (x : RigUnit). (x.target == id) ≡ true) (get_or_from_slice_get (filter (λ (u : RigUnit). u.target == id) rs) j a a f)
    (All-get_or (λ (x : RigUnit). (x.target == id) ≡ true) (filter (λ (u : RigUnit). u.target == id) rs) j a
    (slice_get_within (filter (λ (u : RigUnit). u.target == id) rs) j a f) (filter_passes (λ (u : RigUnit). u.target == id) rs))

of-target : (units : List RigUnit) (id k : ℕ) (r : RigUnit) → AllPairs Agree units → slice_get units k ≡ Some r → r.target ≡ id → r.lun ≤ 7
    → unit_at (device_opened (units_of units id)).target.units r.lun ≡ Some (unit_opened r)
unfolding target_opened
of-target units id k r agree e t l =
    let found : (j : ℕ) × (slice_get (units_of units id) j ≡ Some r) = find-kept (λ (u : RigUnit). u.target == id) units k r e (here r.target t) in
    one-added (units_of units id) (replicate 8 None) found.0 r distinct found.1 (omega (arith, l))
  where
    here : (n : ℕ) → n ≡ id → (n == id) ≡ true
    here n q = grind (arith, nat_tests, q)

    at-id : (n : ℕ) → (n == id) ≡ true → n ≡ id
    at-id n q = grind (arith, nat_tests, q)

    distinct : Distinct (units_of units id)
    distinct i j a b m f g =
        let both : Agree (slice_index_or (units_of units id) i a) (slice_index_or (units_of units id) j a) =
        AllPairs-filter Agree (λ (u : RigUnit). u.target == id) units agree i j a m (slice_get_within (units_of units id) j b g) in
        let ab : Agree a b =
        subst (λ (x : RigUnit). Agree a x) (get_or_from_slice_get (units_of units id) j b a g)
        (subst (λ (x : RigUnit). Agree x (slice_index_or (units_of units id) j a)) (get_or_from_slice_get (units_of units id) i a a f) both) in
        λ s. ab.lun (at-id a.target (has-id id units i a f) ∙ sym (at-id b.target (has-id id units j b g))) (sym s)

-- ---- no other unit stands there
abbrev IsOneOf : List RigUnit → (id lun : ℕ) → Type 0
IsOneOf units id lun = (n : ℕ) × (n < length units) × ((slice_index_or units n no_unit).target ≡ id) × ((slice_index_or units n no_unit).lun ≡ lun)

later : (r : RigUnit) (rs : List RigUnit) (id lun : ℕ) → IsOneOf rs id lun → IsOneOf (r ∷ rs) id lun
later r rs id lun (n, l, t, e) = (suc n, omega (arith, l), t, e)

empty-slots : (n lun : ℕ) (u : LogicalUnit) → unit_at (replicate n None) lun ≡ Some u → ⊥
unfolding unit_at
empty-slots zero lun u e = absurd cc
empty-slots (suc n) zero u e = absurd cc
empty-slots (suc n) (suc lun) u e = empty-slots n lun u e

found-added : (units : List RigUnit) (id lun : ℕ) (us : List (Option LogicalUnit)) (u : LogicalUnit) → unit_at (fold adds_unit us (units_of units id)) lun ≡ Some u → (unit_at us lun ≡ Some u) ⊎ IsOneOf units id lun
found-added [] id lun us u e = inl e
found-added (r ∷ rs) id lun us u e = by (r.target == id) refl (λ vs f. found-added rs id lun vs u f)
  where
    from-rest : (vs : List (Option LogicalUnit)) → ((unit_at vs lun ≡ Some u) → (unit_at us lun ≡ Some u) ⊎ IsOneOf (r ∷ rs) id lun) → (unit_at vs lun ≡ Some u) ⊎ IsOneOf rs id lun → (unit_at us lun ≡ Some u) ⊎ IsOneOf (r ∷ rs) id lun
    from-rest vs f (inl h) = f h
    from-rest vs f (inr h) = inr (later r rs id lun h)

    own : (r.target == id) ≡ true → unit_at (adds_unit us r) lun ≡ Some u → (unit_at us lun ≡ Some u) ⊎ IsOneOf (r ∷ rs) id lun
    own t h = placed (at-with us r.lun lun (unit_opened r) u h)
      where
        placed : ((lun ≡ r.lun) × (u ≡ unit_opened r)) ⊎ ((lun ≢ r.lun) × (unit_at us lun ≡ Some u)) → (unit_at us lun ≡ Some u) ⊎ IsOneOf (r ∷ rs) id lun
        placed (inl p) = inr (0, omega arith, grind (arith, nat_tests, t), sym p.0)
        placed (inr p) = inl p.1

    by : (b : Bool) → (r.target == id) ≡ b → ((vs : List (Option LogicalUnit)) → unit_at (fold adds_unit vs (units_of rs id)) lun ≡ Some u → (unit_at vs lun ≡ Some u) ⊎ IsOneOf rs id lun) → (unit_at us lun ≡ Some u) ⊎ IsOneOf (r ∷ rs) id lun
    by true t rest = from-rest (adds_unit us r) (own t) (rest (adds_unit us r) (sym (ap (λ (c : Bool). unit_at (fold adds_unit us (if c then r ∷ units_of rs id else units_of rs id)) lun) t) ∙ e))
    by false t rest = from-rest us (λ h. inl h) (rest us (sym (ap (λ (c : Bool). unit_at (fold adds_unit us (if c then r ∷ units_of rs id else units_of rs id)) lun) t) ∙ e))

-- ---- the devices
past-last : (units : List RigUnit) (id : ℕ) → 7 ≤ id → device_at (bus_opened units) id ≡ no_device
past-last units zero l = absurd (omega (arith, l))
past-last units (suc zero) l = absurd (omega (arith, l))
past-last units (suc (suc zero)) l = absurd (omega (arith, l))
past-last units (suc (suc (suc zero))) l = absurd (omega (arith, l))
past-last units (suc (suc (suc (suc zero)))) l = absurd (omega (arith, l))
past-last units (suc (suc (suc (suc (suc zero))))) l = absurd (omega (arith, l))
past-last units (suc (suc (suc (suc (suc (suc zero)))))) l = absurd (omega (arith, l))
past-last units (suc (suc (suc (suc (suc (suc (suc k))))))) l = refl

below-or : (x n : ℕ) → (x < n) ⊎ (n ≤ x)
below-or x n = by (nat_lt x n) refl
  where
    by : (b : Bool) → nat_lt x n ≡ b → (x < n) ⊎ (n ≤ x)
    by true e = inl (grind (arith, nat_tests))
    by false e = inr (grind (arith, nat_tests))

free-link : (units : List RigUnit) → (target_opened units).link ≡ BusFree
unfolding target_opened
free-link units = refl

module _ (g : BenchSetting) (p : Plan) (setting : IsBenchSetting g) (plan : IsPlan p (length g.units)) (of : IsPlanOf g (opened g) p) where
  unit-is : (n : ℕ) → n < length g.units → p.units n ≡ slice_index_or g.units n no_unit
  unit-is n l = sym (get_or_from_slice_get g.units n (p.units n) no_unit (of.units n l))

  range : (n : ℕ) → n < length g.units → IsUnit g.version (p.units n)
  range n l = subst (IsUnit g.version) (sym (unit-is n l)) (All-get_or (IsUnit g.version) g.units n no_unit l setting.rig.in_range)

  here : (n : ℕ) → n < length g.units → unit_at (targets (opened g).bus (p.units n).target).units (p.units n).lun ≡ Some (unit_opened (p.units n))
  here n l =
      ap (λ (d : DeviceState). unit_at d.target.units (p.units n).lun) (opened-device g.units (p.units n).target (omega (arith, (range n l).in_range.target)))
      ∙ of-target g.units (p.units n).target n (p.units n) setting.rig.agree (of.units n l) refl (range n l).in_range.lun

  free : (i : ℕ) → (targets (opened g).bus i).link ≡ BusFree
  free i = by (below-or i 7)
    where
      by : (i < 7) ⊎ (7 ≤ i) → (targets (opened g).bus i).link ≡ BusFree
      by (inl l) = ap (λ (d : DeviceState). d.target.link) (opened-device g.units i l) ∙ free-link (units_of g.units i)
      by (inr l) = ap (λ (d : DeviceState). d.target.link) (past-last g.units i l)

  opens : Opens p (length g.units) no_tickets (targets (opened g).bus)
  opens = record { unbuilt = λ x. refl; unqueued = λ x. refl; unlogged = λ x. refl; unmarked = λ x. refl; unreset = λ x. refl; free = free; units = here }

  abbrev IsUnitOf : ℕ → ℕ → Type 0
  IsUnitOf i lun = (n : ℕ) × (n < length g.units) × ((p.units n).target ≡ i) × ((p.units n).lun ≡ lun)

  of-rig : (i lun : ℕ) → IsOneOf g.units i lun → IsUnitOf i lun
  of-rig i lun (n, l, t, e) = (n, l, ap (λ (u : RigUnit). u.target) (unit-is n l) ∙ t, ap (λ (u : RigUnit). u.lun) (unit-is n l) ∙ e)

  whole-at : (i lun : ℕ) (u : LogicalUnit) → unit_at (target_opened (units_of g.units i)).units lun ≡ Some u → IsUnitOf i lun
  unfolding target_opened
  whole-at i lun u e = by (found-added g.units i lun (replicate 8 None) u e)
    where
      by : (unit_at (replicate 8 None) lun ≡ Some u) ⊎ IsOneOf g.units i lun → IsUnitOf i lun
      by (inl h) = absurd (empty-slots 8 lun u h)
      by (inr h) = of-rig i lun h

  whole : (i lun : ℕ) (u : LogicalUnit) → unit_at (targets (opened g).bus i).units lun ≡ Some u → IsUnitOf i lun
  whole i lun u e = by (below-or i 7)
    where
      by : (i < 7) ⊎ (7 ≤ i) → IsUnitOf i lun
      by (inl l) = whole-at i lun u (sym (ap (λ (d : DeviceState). unit_at d.target.units lun) (opened-device g.units i l)) ∙ e)
      by (inr l) = absurd (empty-slots 0 lun u (sym (ap (λ (d : DeviceState). unit_at d.target.units lun) (past-last g.units i l)) ∙ e))

  joined : AreJoined p g.units (opened g).bus no_tickets
  joined = record {
    reached = record { plan = plan; from = (no_tickets, targets (opened g).bus, opens, none) };
    rig = of.units;
    apart = λ x y e a b t. absurd cc;
    connected = opens_connected g.units;
    whole = whole;
  }

  eight : (i : ℕ) → i < 7 → length (device_at (opened g).bus i).rooms ≡ 8
  eight i l = ap (λ (d : DeviceState). length d.rooms) (opened-device g.units i l)

  places : HasPlaces p g.units (opened g).bus
  places = record { rooms = λ i l. eight i l; luns = λ n l. omega (arith, (range n l).in_range.lun) }

  empty-log : (n : ℕ) (u : LogicalUnit) → n < length g.units → unit_at (targets (opened g).bus (p.units n).target).units (p.units n).lun ≡ Some u → length u.log ≡ 0
  empty-log n u l e =
      let same : u ≡ unit_opened (p.units n) = same_Some u (unit_opened (p.units n)) (sym e ∙ here n l) in
      ap (λ (v : LogicalUnit). length v.log) same

  reserved : AreReserved p g.units 0 (opened g).bus no_tickets (λ n. 0)
  reserved n l u e = omega (arith, empty-log n u l e)

  pub opening-at : Opens p (length g.units) no_tickets (targets (opened g).bus) × IsJoined g p (opened g) no_tickets (λ n. 0)
  opening-at = (
    opens,
    record {
      tickets = joined;
      desk = record { unbuilt = λ x l. refl; each = λ t l. absurd (omega (arith, l)) };
      rig = record { version = refl; units = refl; retries = refl; autosense = refl };
      places = places;
      reserved = reserved;
      most = λ n. omega arith;
    },
  )

pub opening-is-joined : OpeningIsJoined
opening-is-joined g p setting plan of = opening-at g p setting plan of
