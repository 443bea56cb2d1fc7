-- In every world of a run each unit of the rig stands at its target and LUN, with a disk that has its blocks.
use Rattle.std.proofs.Common.{arith, ◌≡◌, ◌≢◌, ◌<◌, ◌≤◌, ◌*◌, ◌==◌, ℕ, zero, suc, Bool, true, false, List, [], ◌∷◌, length, map, filter, replicate, slice_get, slice_index_or, Option, Some, None, refl, sym, ap, subst, ◌∙◌}
use Rattle.std.proofs.lemmas.Bool.Decides.{nat_tests}
use Rattle.std.proofs.lemmas.List.Elements.{All-get_or, filter_passes}
use Rattle.std.proofs.lemmas.List.Kept.{AllPairs-filter}
use Rattle.std.proofs.lemmas.Option.{slice_get_within, slice_get-get_or, get_or_from_slice_get}
use Rattle.std.specs.Prelude.{fold, IfSome}
use Rattle.std.specs.List.{AllPairs, range_with_len}
use Rattle.plain_lun.specs.Unit.{blocks_of}
use Rattle.plain_lun.proofs.Disks.{length-filled_disk}
use Rattle.rig_types.specs.declared.rig.Unit.{Unit as RigUnit}
use Rattle.rig_types.specs.declared.step.Entry.{Entry}
use Rattle.rig_types.specs.Ranges.{IsUnit, Agree, IsRig}
use Rattle.target_law.specs.Target.{LogicalUnit, unit_at, with_unit, unit_opened, adds_unit, target_opened}
use Rattle.target_law.specs.Lawful.{IsThere}
use Rattle.target_law.specs.Devices.{DeviceState, device_opened}
use Rattle.bus_law.specs.Bus.{no_device, device_at, units_of, bus_opened}
use Rattle.world_law.specs.World.{BenchSetting, World}
use Rattle.world_law.specs.Opening.{opened}
use Rattle.bench_core.specs.Histories.{IsReplayed}
use Rattle.bench_core.proofs.UnitsGrow.{SlotGrows, unit_grows}
use Rattle.bench_core.proofs.WorldsGrow.{replayed_grows}

-- ---- the units of a target among those of the rig

abbrev Found : (RigUnit → Bool) → List RigUnit → RigUnit → Type 0
Found p xs x = (j : ℕ) × (slice_get (filter p xs) j ≡ Some x)

first-kept : (p : RigUnit → Bool) (y : RigUnit) (ys : List RigUnit) (x : RigUnit) (b : Bool) → p y ≡ b → y ≡ x → p x ≡ true → Found p (y ∷ ys) x
first-kept p y ys x true q same h = (0, rw q (ap Some same))
first-kept p y ys x false q same h = absurd cc

rest-kept : (p : RigUnit → Bool) (y : RigUnit) (ys : List RigUnit) (x : RigUnit) (b : Bool) → p y ≡ b → Found p ys x → Found p (y ∷ ys) x
rest-kept p y ys x true q r = (suc r.0, rw q r.1)
rest-kept p y ys x false q r = (r.0, rw q r.1)

find-kept : (p : RigUnit → Bool) (xs : List RigUnit) (k : ℕ) (x : RigUnit) → slice_get xs k ≡ Some x → p x ≡ true → Found p xs x
find-kept p [] k x e h = absurd cc
find-kept p (y ∷ ys) zero x e h = let same : y ≡ x = cc in first-kept p y ys x (p y) refl same h
find-kept p (y ∷ ys) (suc k) x e h = rest-kept p y ys x (p y) refl (find-kept p ys k x e h)

-- ---- a target at its opening

length-with : (us : List (Option LogicalUnit)) (n : ℕ) (u : LogicalUnit) → length (with_unit us n u) ≡ length us
unfolding with_unit
length-with [] n u = refl
length-with (x ∷ xs) zero u = refl
length-with (x ∷ xs) (suc n) u = ap (λ (k : ℕ). suc k) (length-with xs n u)

with-here : (us : List (Option LogicalUnit)) (n : ℕ) (u : LogicalUnit) → n < length us → unit_at (with_unit us n u) n ≡ Some u
unfolding unit_at with_unit
with-here [] n u l = absurd (omega (arith, l))
with-here (x ∷ xs) zero u l = refl
with-here (x ∷ xs) (suc n) u l = with-here xs n u (omega (arith, l))

with-other : (us : List (Option LogicalUnit)) (n m : ℕ) (u : LogicalUnit) → n ≢ m → unit_at (with_unit us n u) m ≡ unit_at us m
unfolding unit_at with_unit
with-other [] n m u d = refl
with-other (x ∷ xs) zero zero u d = absurd (d refl)
with-other (x ∷ xs) zero (suc m) u d = refl
with-other (x ∷ xs) (suc n) zero u d = refl
with-other (x ∷ xs) (suc n) (suc m) u d = with-other xs n m u (λ e. d (ap (λ (k : ℕ). suc k) e))

others-added : (rs : List RigUnit) (us : List (Option LogicalUnit)) (lun : ℕ) → ((j : ℕ) (y : RigUnit) → slice_get rs j ≡ Some y → y.lun ≢ lun)
    → unit_at (fold adds_unit us rs) lun ≡ unit_at us lun
others-added [] us lun h = refl
others-added (r ∷ rs) us lun h = others-added rs (adds_unit us r) lun (λ j y e. h (suc j) y e) ∙ with-other us r.lun lun (unit_opened r) (h 0 r refl)

abbrev Distinct : List RigUnit → Type 0
Distinct rs = (i j : ℕ) (a b : RigUnit) → i < j → slice_get rs i ≡ Some a → slice_get rs j ≡ Some b → b.lun ≢ a.lun

one-added : (rs : List RigUnit) (us : List (Option LogicalUnit)) (j : ℕ) (r : RigUnit) → Distinct rs → slice_get rs j ≡ Some r → r.lun < length us
    → unit_at (fold adds_unit us rs) r.lun ≡ Some (unit_opened r)
one-added [] us j r d e l = absurd cc
one-added (x ∷ xs) us zero r d e l =
    let same : x ≡ r = cc in
    subst (λ (y : RigUnit). unit_at (fold adds_unit (adds_unit us x) xs) y.lun ≡ Some (unit_opened y)) same
    (others-added xs (adds_unit us x) x.lun (λ j y f. d 0 (suc j) x y (omega arith) refl f)
    ∙ with-here us x.lun (unit_opened x) (subst (λ (y : RigUnit). y.lun < length us) (sym same) l))
one-added (x ∷ xs) us (suc j) r d e l =
    one-added xs (adds_unit us x) j r (λ a b y z m f g. d (suc a) (suc b) y z (omega (arith, m)) f g) e
    (omega (arith, l, length-with us x.lun (unit_opened x)))

-- ---- the bus at its opening

opened-device : (units : List RigUnit) (id : ℕ) → id < 7 → device_at (bus_opened units) id ≡ device_opened (units_of units id)
opened-device units id l = by id l
  where
    f : ℕ → DeviceState
    f k = device_opened (units_of units k)

    by : (k : ℕ) → k < 7 → slice_index_or (map f (range_with_len 0 7)) k no_device ≡ f k
    by zero m = refl
    by (suc zero) m = refl
    by (suc (suc zero)) m = refl
    by (suc (suc (suc zero))) m = refl
    by (suc (suc (suc (suc zero)))) m = refl
    by (suc (suc (suc (suc (suc zero))))) m = refl
    by (suc (suc (suc (suc (suc (suc zero)))))) m = refl
    by (suc (suc (suc (suc (suc (suc (suc k))))))) m = absurd (omega (arith, m))

has-id : (id : ℕ) (rs : List RigUnit) (j : ℕ) (a : RigUnit) → slice_get (filter (λ (u : RigUnit). u.target == id) rs) j ≡ Some a → (a.target == id) ≡ true
has-id id rs j a f =
    subst (λ (x : RigUnit). (x.target == id) ≡ true) (get_or_from_slice_get (filter (λ (u : RigUnit). u.target == id) rs) j a a f)
    (All-get_or (λ (x : RigUnit). (x.target == id) ≡ true) (filter (λ (u : RigUnit). u.target == id) rs) j a
    (slice_get_within (filter (λ (u : RigUnit). u.target == id) rs) j a f) (filter_passes (λ (u : RigUnit). u.target == id) rs))

of-target : (units : List RigUnit) (id k : ℕ) (r : RigUnit) → AllPairs Agree units → slice_get units k ≡ Some r → r.target ≡ id → r.lun ≤ 7
    → unit_at (device_opened (units_of units id)).target.units r.lun ≡ Some (unit_opened r)
unfolding target_opened
of-target units id k r agree e t l =
    let found : (j : ℕ) × (slice_get (units_of units id) j ≡ Some r) = find-kept (λ (u : RigUnit). u.target == id) units k r e (here r.target t) in
    one-added (units_of units id) (replicate 8 None) found.0 r distinct found.1 (omega (arith, l))
  where
    here : (n : ℕ) → n ≡ id → (n == id) ≡ true
    here n q = grind (arith, nat_tests, q)

    at-id : (n : ℕ) → (n == id) ≡ true → n ≡ id
    at-id n q = grind (arith, nat_tests, q)

    distinct : Distinct (units_of units id)
    distinct i j a b m f g =
        let both : Agree (slice_index_or (units_of units id) i a) (slice_index_or (units_of units id) j a) =
        AllPairs-filter Agree (λ (u : RigUnit). u.target == id) units agree i j a m (slice_get_within (units_of units id) j b g) in
        let ab : Agree a b =
        subst (λ (x : RigUnit). Agree a x) (get_or_from_slice_get (units_of units id) j b a g)
        (subst (λ (x : RigUnit). Agree x (slice_index_or (units_of units id) j a)) (get_or_from_slice_get (units_of units id) i a a f) both) in
        λ s. ab.lun (at-id a.target (has-id id units i a f) ∙ sym (at-id b.target (has-id id units j b g))) (sym s)

-- ---- in every world of a run

abbrev pub HasDisk : RigUnit → LogicalUnit → Type 0
HasDisk r u = (u.rig ≡ r) × (r.blocks ≤ blocks_of u.plain)

grown : (x y : Option LogicalUnit) (r : RigUnit) → x ≡ Some (unit_opened r) → SlotGrows x y → IsThere y (HasDisk r)
grown (Some u) (Some v) r e g =
    let same : u ≡ unit_opened r = cc in
    let rig : u.rig ≡ r = ap (λ (w : LogicalUnit). w.rig) same in
    let size : length u.plain.disk ≡ 512 * r.blocks = ap (λ (w : LogicalUnit). length w.plain.disk) same ∙ length-filled_disk r.pattern (512 * r.blocks) in
    (g.rig ∙ rig, omega (arith, g.disk, size))
grown None y r e g = absurd cc
grown (Some u) None r e g = absurd g

pub unit_stands : (g : BenchSetting) (es : List Entry) (w : World) (k : ℕ) (r : RigUnit) → IsRig g.version g.units g.retries g.step_limit → IsReplayed g es w → slice_get g.units k ≡ Some r
    → IsThere (unit_at (device_at w.bus r.target).target.units r.lun) (HasDisk r)
unit_stands g es w k r valid h e =
    let range : IsUnit g.version r =
    subst (λ (x : RigUnit). IsUnit g.version x) (get_or_from_slice_get g.units k r r e) (All-get_or (IsUnit g.version) g.units k r (slice_get_within g.units k r e) valid.in_range) in
    let here : unit_at (device_at (opened g).bus r.target).target.units r.lun ≡ Some (unit_opened r) =
    ap (λ (d : DeviceState). unit_at d.target.units r.lun) (opened-device g.units r.target (omega (arith, range.in_range.target)))
    ∙ of-target g.units r.target k r valid.agree e refl range.in_range.lun in
    grown (unit_at (device_at (opened g).bus r.target).target.units r.lun) (unit_at (device_at w.bus r.target).target.units r.lun) r here
    (unit_grows (device_at (opened g).bus r.target).target.units (device_at w.bus r.target).target.units r.lun (replayed_grows g es w h r.target))

-- ---- a block of a unit's disk

pub rig_is : (version : ℕ) (units : List RigUnit) (retries limit : ℕ) (g : BenchSetting) → IsRig version units retries limit → version ≡ g.version → units ≡ g.units
    → retries ≡ g.retries → limit ≡ g.step_limit → IsRig g.version g.units g.retries g.step_limit
rig_is version units retries limit g valid a b c d =
    subst (λ (n : ℕ). IsRig n g.units g.retries g.step_limit) a
    (subst (λ (us : List RigUnit). IsRig version us g.retries g.step_limit) b
    (subst (λ (n : ℕ). IsRig version units n g.step_limit) c (subst (λ (n : ℕ). IsRig version units retries n) d valid)))

pub place_found : (g : BenchSetting) (us : List RigUnit) (k : ℕ) (other : RigUnit) → us ≡ g.units → k < length g.units → slice_get g.units k ≡ Some (slice_index_or us k other)
place_found g us k other e l = slice_get-get_or g.units k other l ∙ ap (λ (xs : List RigUnit). Some (slice_index_or xs k other)) (sym e)

has-block : (o : Option LogicalUnit) (r : RigUnit) (block : ℕ) → IsThere o (HasDisk r) → block < r.blocks → IsThere o (λ u. block < blocks_of u.plain)
has-block (Some u) r block h l = omega (arith, h.1, l)
has-block None r block h l = absurd h

pub block_stands : (g : BenchSetting) (es : List Entry) (w : World) (k block : ℕ) (r : RigUnit) → IsRig g.version g.units g.retries g.step_limit → IsReplayed g es w
    → slice_get g.units k ≡ Some r → IfSome (slice_get g.units k) (λ x. block < x.blocks)
    → IsThere (unit_at (device_at w.bus r.target).target.units r.lun) (λ u. block < blocks_of u.plain)
block_stands g es w k block r valid h e few =
    has-block (unit_at (device_at w.bus r.target).target.units r.lun) r block (unit_stands g es w k r valid h e)
    (subst (λ (o : Option RigUnit). IfSome o (λ x. block < x.blocks)) e few)
