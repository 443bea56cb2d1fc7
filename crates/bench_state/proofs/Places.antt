-- The place of a unit among at most 16 units is a byte.
use Rattle.std.proofs.Common.{arith, ◌≡◌, ◌<◌, ◌≤◌, ℕ, Bool, true, false, cond, nat_lt, List, length, position, Option, Some, None, IfSome, refl, sym, subst}
use Rattle.std.proofs.lemmas.Bool.Decides.{nat_tests}
use Rattle.std.specs.List.{position_or_len}
use Rattle.rig_types.specs.declared.rig.Unit.{Unit as RigUnit}
use Rattle.world_law.specs.World.{is_place}

by-test : (b : Bool) (n count : ℕ) → nat_lt n count ≡ b → count ≤ 16 → IfSome (cond b (Some n) None) (λ (u : ℕ). u < 256)
by-test true n count e few = let l : n < count = grind (arith, nat_tests, e) in omega (arith, l, few)
by-test false n count e few = tt

pub few_places : (us : List RigUnit) (target lun : ℕ) (o : Option ℕ) → o ≡ position (is_place target lun) us → length us ≤ 16 → IfSome o (λ (u : ℕ). u < 256)
few_places us target lun o e few =
    subst (λ (x : Option ℕ). IfSome x (λ (u : ℕ). u < 256)) (sym e)
    (by-test (nat_lt (position_or_len (is_place target lun) us) (length us)) (position_or_len (is_place target lun) us) (length us) refl few)
