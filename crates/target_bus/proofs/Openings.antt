-- The bus at its opening.
use Rattle.std.proofs.Common.{◌≡◌, ◌+◌, ◌==◌, ℕ, true, false, List, [], ◌∷◌, ◌++◌, length, map, slice_index_or, sym, ap, ◌∙◌, arith}
use Rattle.std.specs.List.{AllPairs, range_with_len}
use Rattle.std.proofs.lemmas.Bool.Decides.{nat_tests}
use Rattle.std.proofs.lemmas.List.Elements.{All-filter, filter_passes}
use Rattle.std.proofs.lemmas.List.Kept.{AllPairs-filter}
use Rattle.std.proofs.lemmas.List.FromFn.{length-map-range_with_len, map-range_with_len_more}
use Rattle.rig_types.specs.declared.rig.Unit.{Unit as RigUnit}
use Rattle.rig_types.specs.Ranges.{IsRig, IsUnit, Agree}
use Rattle.scsi_target.specs.Devices.{IsOneTarget}
use Rattle.target_law.specs.Devices.{DeviceState, device_opened}
use Rattle.bus_law.specs.Bus.{units_of, bus_opened}
use Rattle.bus_law.proofs.OneConnected.{opens_connected}
use Rattle.target_bus.specs.Fields.{IsHeldBus}

-- the devices below an ID, at their opening
abbrev pub devices_below : List RigUnit → ℕ → List DeviceState
devices_below units n = map (λ (id : ℕ). device_opened (units_of units id)) (range_with_len 0 n)

pub one-more : (units : List RigUnit) (n : ℕ) (ds : List DeviceState) (d : DeviceState) → ds ≡ devices_below units n → d ≡ device_opened (units_of units n) → ds ++ d ∷ [] ≡ devices_below units (n + 1)
one-more units n ds d e f =
    ap (λ (xs : List DeviceState). xs ++ d ∷ []) e ∙ ap (λ (x : DeviceState). devices_below units n ++ x ∷ []) f
    ∙ sym (map-range_with_len_more (λ (id : ℕ). device_opened (units_of units id)) 0 n n (omega arith))

is-of : (id : ℕ) (r : RigUnit) → (r.target == id) ≡ true → r.target ≡ id
is-of id r e = grind (arith, nat_tests)

-- the units of one target
same-target : (units : List RigUnit) (id : ℕ) → AllPairs (λ (a : RigUnit) (b : RigUnit). a.target ≡ b.target) (units_of units id)
same-target units id i j d l m =
    let here = filter_passes (λ (u : RigUnit). u.target == id) units in
    is-of id (slice_index_or (units_of units id) i d) (here i d (omega (arith, l, m))) ∙ sym (is-of id (slice_index_or (units_of units id) j d) (here j d m))

pub of-one-target : (version : ℕ) (units : List RigUnit) (retries limit id : ℕ) → IsRig version units retries limit → IsOneTarget version (units_of units id)
of-one-target version units retries limit id h = record {
  in_range = All-filter (λ (u : RigUnit). u.target == id) (IsUnit version) units h.in_range;
  agree = AllPairs-filter Agree (λ (u : RigUnit). u.target == id) units h.agree;
  same = same-target units id;
}

pub opened-held : (n : ℕ) (units : List RigUnit) → n ≡ 7 → IsHeldBus n (bus_opened units)
opened-held n units e = record {
  counted = e;
  seven = length-map-range_with_len (λ (id : ℕ). device_opened (units_of units id)) 0 7;
  one = opens_connected units;
  acknowledges = λ a. absurd (let f : false ≡ true = a in cc);
}

pub opened-length : (units : List RigUnit) (n : ℕ) → length (devices_below units n) ≡ n
opened-length units n = length-map-range_with_len (λ (id : ℕ). device_opened (units_of units id)) 0 n
