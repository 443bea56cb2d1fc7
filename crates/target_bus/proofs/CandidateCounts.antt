-- The candidates of all units, counted and found by unit.
use Rattle.std.proofs.Common.{◌≡◌, ◌<◌, ◌≤◌, ◌+◌, ◌-◌, ◌%◌, ◌&&◌, ℕ, zero, suc, Bool, true, false, nat_lt, is_none, List, [], ◌∷◌, ◌++◌, length, take, drop, slice_index_or, Option, Some, None, option_map, refl, sym, ap, ◌∙◌, arith, length-append}
use Rattle.std.specs.Prelude.{slice_get, IfSome}
use Rattle.std.specs.List.{range_with_len}
use Rattle.std.proofs.lemmas.Bool.Decides.{nat_tests}
use Rattle.std.proofs.lemmas.Option.{slice_get-map, slice_get-get_or}
use Rattle.std.proofs.lemmas.List.FromFn.{length-range_with_len, get_or-range_with_len, length-map-range_with_len}
use Rattle.rig_types.specs.declared.rig.Unit.{Unit as RigUnit}
use Rattle.target_law.specs.Target.{LogicalUnit, unit_at}
use Rattle.target_law.specs.Calls.{candidates}
use Rattle.target_law.specs.Rigs.{rig_of}
use Rattle.target_law.specs.Lawful.{IsThere}
use Rattle.target_law.specs.Devices.{DeviceState}
use Rattle.bus_law.specs.Bus.{BusState, no_device, device_at}
use Rattle.bus_law.specs.Reselections as law
use Rattle.bus_law.specs.Reselections.{candidate_count, candidates_of, all_candidates, if_id, with_id, named_if, calls, candidate_named}
use Rattle.target_bus.specs.Candidates.{candidate_of, IsOfUnit, CanReselect}
use Rattle.target_bus.specs.declared.candidates.Candidate.{Candidate}

-- ---- one unit

abbrev pub count_of : BusState → RigUnit → ℕ
count_of b r = candidate_count (unit_at (device_at b r.target).target.units r.lun)

-- there is no unit where there is no device
pub count-past : (ds : List DeviceState) (id lun : ℕ) → length ds ≤ id → candidate_count (unit_at (slice_index_or ds id no_device).target.units lun) ≡ 0
unfolding unit_at
count-past [] id lun l = refl
count-past (d ∷ ds) zero lun l = absurd (omega (arith, l))
count-past (d ∷ ds) (suc id) lun l = count-past ds id lun (omega (arith, l))

pub count-there : (o : Option LogicalUnit) (r : RigUnit) → Some r ≡ rig_of o → IsThere o (λ u. Unit {0})
count-there None r e = absurd cc
count-there (Some u) r e = tt

pub count-is : (o : Option LogicalUnit) (n : ℕ) → IsThere o (λ u. n ≡ candidates u) → n ≡ candidate_count o
count-is (Some u) n h = h
count-is None n h = absurd h

pub count-none : (o : Option LogicalUnit) → None ≡ rig_of o → 0 ≡ candidate_count o
count-none None e = refl
count-none (Some u) e = absurd cc

pub below-count : (o : Option LogicalUnit) (n : ℕ) → n < candidate_count o → IsThere o (λ u. n < candidates u)
below-count (Some u) n h = h
below-count None n h = absurd (omega (arith, h))

-- ---- all units

length-candidates_of : (b : BusState) (r : RigUnit) → length (candidates_of b r) ≡ count_of b r
length-candidates_of b r = length-map-range_with_len (λ (n : ℕ). record { target = r.target; lun = r.lun; number = n }) 0 (count_of b r)

-- the candidates of one unit more
total-more : (b : BusState) (us : List RigUnit) (i : ℕ) (d : RigUnit) → i < length us
    → length (all_candidates (take (suc i) us) b) ≡ length (all_candidates (take i us) b) + count_of b (slice_index_or us i d)
total-more b [] i d l = absurd (omega (arith, l))
total-more b (x ∷ xs) zero d l = length-append (candidates_of b x) [] ∙ omega (arith, length-candidates_of b x)
total-more b (x ∷ xs) (suc i) d l =
    length-append (candidates_of b x) (all_candidates (take (suc i) xs) b)
    ∙ omega (arith, total-more b xs i d (omega (arith, l)), length-append (candidates_of b x) (all_candidates (take i xs) b))

next : (i : ℕ) → suc i ≡ i + 1
next i = omega arith

pub total-step : (b : BusState) (us : List RigUnit) (i : ℕ) (d : RigUnit) (total r : ℕ) → total ≡ length (all_candidates (take i us) b) → r ≡ count_of b (slice_index_or us i d) → i < length us
    → total + r ≡ length (all_candidates (take (i + 1) us) b)
total-step b us i d total r e h l =
    omega (arith, e, h, total-more b us i d l) ∙ ap (λ (n : ℕ). length (all_candidates (take n us) b)) (next i)

take-past : (us : List RigUnit) (i : ℕ) → length us ≤ i → take i us ≡ us
take-past [] zero l = refl
take-past [] (suc i) l = refl
take-past (x ∷ xs) zero l = absurd (omega (arith, l))
take-past (x ∷ xs) (suc i) l = ap (λ (ys : List RigUnit). x ∷ ys) (take-past xs i (omega (arith, l)))

pub total-end : (b : BusState) (us : List RigUnit) (i total : ℕ) → total ≡ length (all_candidates (take i us) b) → length us ≤ i → total ≡ length (all_candidates us b)
total-end b us i total e l = e ∙ ap (λ (vs : List RigUnit). length (all_candidates vs b)) (take-past us i l)

-- ---- what stands at an index

at-front : {A : Type 0} (xs ys : List A) (k : ℕ) → k < length xs → slice_get (xs ++ ys) k ≡ slice_get xs k
at-front [] ys k l = absurd (omega (arith, l))
at-front (x ∷ xs) ys zero l = refl
at-front (x ∷ xs) ys (suc k) l = at-front xs ys k (omega (arith, l))

past-front : {A : Type 0} (xs ys : List A) (k m : ℕ) → k ≡ length xs + m → slice_get (xs ++ ys) k ≡ slice_get ys m
past-front [] ys k m e = ap (slice_get ys) (omega (arith, e))
past-front (x ∷ xs) ys zero m e = absurd (omega (arith, e))
past-front (x ∷ xs) ys (suc k) m e = past-front xs ys k m (omega (arith, e))

of-unit : (b : BusState) (r : RigUnit) (k : ℕ) → k < count_of b r → slice_get (candidates_of b r) k ≡ Some (record { target = r.target; lun = r.lun; number = k })
of-unit b r k l =
    let f : ℕ → law.Candidate = λ n. record { target = r.target; lun = r.lun; number = n } in
    slice_get-map f (range_with_len 0 (count_of b r)) k
    ∙ ap (λ (o : Option ℕ). option_map f o) (slice_get-get_or (range_with_len 0 (count_of b r)) k 0 (omega (arith, l, length-range_with_len 0 (count_of b r))))
    ∙ ap (λ (n : ℕ). Some (f n)) (get_or-range_with_len 0 (count_of b r) k 0 l ∙ omega arith)

front-of : (us : List RigUnit) (i : ℕ) (d : RigUnit) → i < length us → drop i us ≡ slice_index_or us i d ∷ drop (suc i) us
front-of [] i d l = absurd (omega (arith, l))
front-of (x ∷ xs) zero d l = refl
front-of (x ∷ xs) (suc i) d l = front-of xs i d (omega (arith, l))

-- it is one of the next unit
pub found-here : (b : BusState) (us : List RigUnit) (i : ℕ) (d : RigUnit) (left index r : ℕ) → slice_get (all_candidates (drop i us) b) left ≡ slice_get (all_candidates us b) index → i < length us
    → r ≡ count_of b (slice_index_or us i d) → left < r → Some (record { target = (slice_index_or us i d).target; lun = (slice_index_or us i d).lun; number = left }) ≡ slice_get (all_candidates us b) index
found-here b us i d left index r h l e c =
    let x : RigUnit = slice_index_or us i d in
    let below : left < count_of b x = omega (arith, c, e) in
    sym (of-unit b x left below) ∙ sym (at-front (candidates_of b x) (all_candidates (drop (suc i) us) b) left (omega (arith, below, length-candidates_of b x)))
    ∙ sym (ap (λ (vs : List RigUnit). slice_get (all_candidates vs b) left) (front-of us i d l)) ∙ h

-- it comes after those of the next unit
pub found-after : (b : BusState) (us : List RigUnit) (i : ℕ) (d : RigUnit) (left index r : ℕ) → slice_get (all_candidates (drop i us) b) left ≡ slice_get (all_candidates us b) index → i < length us
    → r ≡ count_of b (slice_index_or us i d) → r ≤ left → slice_get (all_candidates (drop (i + 1) us) b) (left - r) ≡ slice_get (all_candidates us b) index
found-after b us i d left index r h l e c =
    let x : RigUnit = slice_index_or us i d in
    ap (λ (n : ℕ). slice_get (all_candidates (drop n us) b) (left - r)) (sym (next i))
    ∙ sym (past-front (candidates_of b x) (all_candidates (drop (suc i) us) b) left (left - r) (omega (arith, c, e, length-candidates_of b x)))
    ∙ sym (ap (λ (vs : List RigUnit). slice_get (all_candidates vs b) left) (front-of us i d l)) ∙ h

drop-past : (us : List RigUnit) (i : ℕ) → length us ≤ i → drop i us ≡ []
drop-past [] zero l = refl
drop-past [] (suc i) l = refl
drop-past (x ∷ xs) zero l = absurd (omega (arith, l))
drop-past (x ∷ xs) (suc i) l = drop-past xs i (omega (arith, l))

-- there is none at the index
pub found-none : (b : BusState) (us : List RigUnit) (i left index : ℕ) → slice_get (all_candidates (drop i us) b) left ≡ slice_get (all_candidates us b) index → length us ≤ i
    → None ≡ slice_get (all_candidates us b) index
found-none b us i left index h l = sym (ap (λ (vs : List RigUnit). slice_get (all_candidates vs b) left) (drop-past us i l)) ∙ h

-- ---- the named one

pub uncalled : (units : List RigUnit) (b : BusState) (word : ℕ) → calls b word ≡ false → None ≡ candidate_named units b word
uncalled units b word e = sym (ap (λ (called : Bool). named_if called (all_candidates units b) word) e)

empty-named : (cs : List law.Candidate) (word : ℕ) → length cs ≡ 0 → None ≡ named_if true cs word
empty-named [] word e = refl
empty-named (c ∷ cs) word e = absurd (omega (arith, e))

pub none-named : (units : List RigUnit) (b : BusState) (word : ℕ) → calls b word ≡ true → length (all_candidates units b) ≡ 0 → None ≡ candidate_named units b word
none-named units b word c e = empty-named (all_candidates units b) word e ∙ sym (ap (λ (called : Bool). named_if called (all_candidates units b) word) c)

is-id : (t : Bool) (c : law.Candidate) → t ≡ true → Some c ≡ if_id t c
is-id true c e = refl
is-id false c e = absurd (let f : false ≡ true = e in cc)

below-eight : (n : ℕ) → n < 7 → nat_lt n 8 ≡ true
below-eight n l = grind (arith, nat_tests)

with-id : (o : Option Candidate) → IfSome o (λ (c : Candidate). c.target < 7) → option_map candidate_of o ≡ with_id (option_map candidate_of o)
with-id None w = refl
with-id (Some c) w = is-id (nat_lt c.target 8) (candidate_of c) (below-eight c.target w)

pub is-named : (units : List RigUnit) (b : BusState) (word : ℕ) (o : Option Candidate) → calls b word ≡ true → IfSome o (λ (c : Candidate). c.target < 7)
    → option_map candidate_of o ≡ slice_get (all_candidates units b) (word % 256 % length (all_candidates units b)) → option_map candidate_of o ≡ candidate_named units b word
is-named units b word o c w h =
    with-id o w ∙ ap with_id h ∙ sym (ap (λ (called : Bool). named_if called (all_candidates units b) word) c)

called-free : (o : Option ℕ) (t : Bool) → (is_none o && t) ≡ true → o ≡ None
called-free None t e = refl
called-free (Some x) t e = absurd (let f : false ≡ true = e in cc)

-- it can reselect, for the bus is free
pub can-be : (b : BusState) (word : ℕ) (o : Option Candidate) → calls b word ≡ true → IfSome o (λ (c : Candidate). IsOfUnit b (candidate_of c)) → IfSome o (λ (c : Candidate). CanReselect b (candidate_of c))
can-be b word None c h = h
can-be b word (Some x) c h = record { free = called-free b.connected _ c; unit = h }
