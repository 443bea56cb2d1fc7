-- A candidate for a reselection is a task of a unit of the rig, or stands for a unit that breaks the rules.
use Rattle.std.proofs.Common.{◌≡◌, ℕ, zero, suc, ◌+◌, ◌<◌, ◌≤◌, ◌%◌, Bool, true, false, List, [], ◌∷◌, ◌++◌, length, map, slice_get, refl, arith, subst, Option, Some, None, is_none, nat_lt}
use Rattle.std.specs.List.{range_with_len}
use Rattle.std.proofs.lemmas.Bool.{and_parts}
use Rattle.rig_types.specs.declared.rig.Unit.{Unit as RigUnit}
use Rattle.target_law.specs.Target.{unit_at}
use Rattle.bus_law.specs.Bus.{BusState}
use Rattle.bus_law.specs.Reselections.{Candidate, candidate_count, candidates_of, all_candidates, if_id, with_id, named_if, calls, candidate_named}
use Rattle.bus_events.specs.Targets.{targets}

-- it is of the unit with this number
pub record IsOf (units : List RigUnit) (b : BusState) (c : Candidate) : Type 0 where
  pub number : ℕ
  pub unit : RigUnit
  pub at : slice_get units number ≡ Some unit
  pub target : c.target ≡ unit.target
  pub lun : c.lun ≡ unit.lun
  pub below : c.number < candidate_count (unit_at (targets b unit.target).units unit.lun)

-- for any predicate
module _ (P : Candidate → Type 0) where
  abbrev Each : List Candidate → Type 0
  Each [] = Unit {0}
  Each (c ∷ cs) = P c × Each cs

  joined : (cs ds : List Candidate) → Each cs → Each ds → Each (cs ++ ds)
  joined [] ds h k = k
  joined (c ∷ cs) ds h k = (h.0, joined cs ds h.1 k)

  at-place : (cs : List Candidate) (k : ℕ) (c : Candidate) → Each cs → slice_get cs k ≡ Some c → P c
  at-place [] k c h e = absurd cc
  at-place (x ∷ xs) zero c h e = let f : x ≡ c = cc in subst P f h.0
  at-place (x ∷ xs) (suc k) c h e = at-place xs k c h.1 e

  kept : (k : Bool) (x c : Candidate) → if_id k x ≡ Some c → x ≡ c
  kept true x c e = cc
  kept false x c e = absurd cc

  with-place : (o : Option Candidate) (c : Candidate) → ((x : Candidate) → o ≡ Some x → P x) → with_id o ≡ Some c → P c
  with-place None c h e = absurd cc
  with-place (Some x) c h e = subst P (kept (nat_lt x.target 8) x c e) (h x refl)

  of-named : (called : Bool) (cs : List Candidate) (word : ℕ) (c : Candidate) → Each cs → named_if called cs word ≡ Some c → (called ≡ true) × P c
  of-named true cs word c h e = (refl, with-place (slice_get cs (word % 256 % length cs)) c (λ x f. at-place cs (word % 256 % length cs) x h f) e)
  of-named false cs word c h e = absurd cc

  of-unit : (r : RigUnit) (most : ℕ) → ((k : ℕ) → k < most → P (record { target = r.target; lun = r.lun; number = k })) → (from n : ℕ) → from + n ≤ most
      → Each (map (λ (k : ℕ). record { target = r.target; lun = r.lun; number = k }) (range_with_len from n))
  of-unit r most f from zero l = tt
  of-unit r most f from (suc n) l = (f from (omega (arith, l)), of-unit r most f (from + 1) n (omega (arith, l)))

  of-rig : (b : BusState) (units : List RigUnit)
      → ((n : ℕ) (r : RigUnit) → slice_get units n ≡ Some r → (k : ℕ) → k < candidate_count (unit_at (targets b r.target).units r.lun) → P (record { target = r.target; lun = r.lun; number = k }))
      → Each (all_candidates units b)
  of-rig b [] f = tt
  of-rig b (r ∷ rs) f = joined (candidates_of b r) (all_candidates rs b) (of-unit r _ (f 0 r refl) 0 _ (omega arith)) (of-rig b rs (λ n u e. f (suc n) u e))

pub none-is : (o : Option ℕ) → is_none o ≡ true → o ≡ None
none-is None h = refl
none-is (Some x) h = absurd cc

-- the bus is free, and the candidate that the word names is one of the rig's
pub candidate-is : (units : List RigUnit) (b : BusState) (word : ℕ) (c : Candidate) → candidate_named units b word ≡ Some c → (b.connected ≡ None) × IsOf units b c
candidate-is units b word c e =
    let n = of-named (IsOf units b) (calls b word) (all_candidates units b) word c
    (of-rig (IsOf units b) b units (λ n r f k l. record { number = n; unit = r; at = f; target = refl; lun = refl; below = l })) e in
    (none-is b.connected (and_parts (is_none b.connected) _ n.0).0, n.1)
