-- The first step that is enabled, along the tries.
use Rattle.std.proofs.Common.{◌≡◌, ℕ, List, [], ◌∷◌, ◌++◌, Option, Some, None, option_map, refl, subst, inl, inr}
use Rattle.rig_types.specs.declared.step.Step.{Step}
use Rattle.world_law.specs.World.{BenchSetting, World}
use Rattle.world_law.specs.Enabling.{Enabled}
use Rattle.run_law.specs.Serial.{step_of, IsFirst}
use Rattle.serial_run.specs.Histories.{tried}

-- a step that may be made is the first; one that may not leaves it to the later ones
pub first_here : (g : BenchSetting) (w : World) (caller : ℕ) (s : Step) (ss : List Step) → Enabled g w caller s → IsFirst g w caller (s ∷ ss) (Some s)
first_here g w caller s ss h = inl (h, refl)

pub first_later : (g : BenchSetting) (w : World) (caller : ℕ) (s : Step) (ss : List Step) (first : Option Step) → (Enabled g w caller s → ⊥) → IsFirst g w caller ss first
    → IsFirst g w caller (s ∷ ss) first
first_later g w caller s ss first n h = inr (n, h)

-- the first step may be made
pub first_may : (g : BenchSetting) (w : World) (caller : ℕ) (ss : List Step) (s : Step) → IsFirst g w caller ss (Some s) → Enabled g w caller s
first_may g w caller [] s h = absurd (none-some s h)
  where
    none-some : (s : Step) → Some s ≡ None → ⊥
    none-some s e = absurd cc
first_may g w caller (x ∷ xs) s (inl h) = subst (λ (y : Step). Enabled g w caller y) (same s x h.1) h.0
  where
    same : (s x : Step) → Some s ≡ Some x → x ≡ s
    same s x e = cc
first_may g w caller (x ∷ xs) s (inr h) = first_may g w caller xs s h.1

-- a try by a ticket that there may be
pub tried_by : (make : ℕ → Step) (o : Option ℕ) (tries : List (Option Step)) → tried (option_map make o ∷ tries) ≡ step_of make o ++ tried tries
tried_by make None tries = refl
tried_by make (Some t) tries = refl
