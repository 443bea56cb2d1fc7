use Rattle.std.proofs.Common.{◌≡◌, [], ◌∷◌, false, refl, arith}
use Rattle.std.specs.List.{AllPairs}
use Rattle.std.proofs.lemmas.List.Elements.{All-nil, All-cons}
use Rattle.std.proofs.lemmas.List.Kept.{AllPairs-cons}
use Rattle.rig_types.specs.declared.rig.Unit.{Unit}
use Rattle.rig_types.specs.declared.rig.Pattern.TheVariants.{Count, Zero}
use Rattle.rig_types.specs.Ranges.{IsUnit, Agree}
use Rattle.target_rows.proofs.openings.units_of_most_and_of_least.Goals as goal

abbrev first : Unit
first = record { target = 6; lun = 0; blocks = 4096; pattern = Count; depth = 64; disconnects = 8; refusals = 8; absent = false; rogue = false }

abbrev last : Unit
last = record { target = 6; lun = 7; blocks = 1; pattern = Zero; depth = 1; disconnects = 0; refusals = 0; absent = false; rogue = false }

is_first : IsUnit 1 first
is_first = record {
  in_range = record { target = omega arith; lun = omega arith; some_blocks = omega arith; blocks = omega arith; some_depth = omega arith; depth = omega arith; disconnects = omega arith; refusals = omega arith };
  not_both = λ h. refl;
}

is_last : IsUnit 1 last
is_last = record {
  in_range = record { target = omega arith; lun = omega arith; some_blocks = omega arith; blocks = omega arith; some_depth = omega arith; depth = omega arith; disconnects = omega arith; refusals = omega arith };
  not_both = λ h. refl;
}

agree : Agree first last
agree = record { lun = λ t l. omega (arith, l); absent = λ t. refl; rogue = λ t. refl }

-- two that are in a relation
pair : {X : Type 0} (R : X → X → Type 0) (a b : X) → R a b → AllPairs R (a ∷ b ∷ [])
pair R a b r = AllPairs-cons R a (b ∷ []) (All-cons (R a) b [] r (All-nil (R a))) (AllPairs-cons R b [] (All-nil (R b)) (λ i j d before within. absurd (omega (arith, within))))

pub open-requires : goal.open-requires
open-requires g c = (
  1,
  record {
    in_range = All-cons (IsUnit 1) first (last ∷ []) is_first (All-cons (IsUnit 1) last [] is_last (All-nil (IsUnit 1)));
    agree = pair Agree first last agree;
    same = pair (λ (a : Unit) (b : Unit). a.target ≡ b.target) first last refl;
  },
)
