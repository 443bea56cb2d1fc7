-- All steps of the bench but Build, in one statement.
use Rattle.std.specs.Prelude.{◌≡◌, ℕ, Bool, true, false, List}
use Rattle.rig_types.specs.Works.{IsWork}
use Rattle.rig_types.specs.declared.rig.Unit.{Unit as RigUnit}
use Rattle.rig_types.specs.declared.step.Step.{Step}
use Rattle.rig_types.specs.declared.step.Step.TheVariants as step
use Rattle.world_law.specs.declared.reply.Reply.{Reply}
use Rattle.world_law.specs.World.{BenchSetting, World}
use Rattle.world_law.specs.Enabling.{Enabled}
use Rattle.world_law.specs.Steps.{Does}
use Rattle.word_owners.specs.Answering.{AreAnswering}
use Rattle.word_owners.specs.Parts.{Counts}
use Rattle.word_owners.specs.Holds.{Spot, Holds}

-- the invariant holds at some spot, and each unit's target answers exactly where the unit isn't absent
pub record IsOwned (version : ℕ) (units : List RigUnit) (w : World) : Type 0 where
  pub spot : Spot
  pub counts : Counts
  pub holds : Holds version units spot counts w
  pub answering : AreAnswering units w.bus

abbrev pub is_build : Step → Bool
is_build (step.Build l) = true
is_build _ = false

-- each step of the bench but Build, where it is enabled, keeps it: those of the driver, and that of the chip for every answer of the bus
abbrev pub BenchStepsHold : Type 0
BenchStepsHold =
    (g : BenchSetting) (version : ℕ) (units : List RigUnit) (w new : World) (caller : ℕ) (s : Step) (answer : Reply) → IsWork g.submitters g.acts → is_build s ≡ false
    → Enabled g w caller s → Does g w caller s answer new → IsOwned version units w → IsOwned version units new
