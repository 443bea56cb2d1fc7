-- What a caller is answered, in every world and to every step (own).
use Rattle.std.specs.Prelude.{◌≡◌, ℕ, true, false, slice_get, Option, Some, None}
use Rattle.rig_types.specs.declared.step.Step.{Step}
use Rattle.rig_types.specs.declared.step.Step.TheVariants as step
use Rattle.rig_types.specs.declared.commands.Command.{Command}
use Rattle.rig_types.specs.declared.acts.Act.{Act}
use Rattle.rig_types.specs.declared.acts.ActKind.{ActKind}
use Rattle.rig_types.specs.declared.acts.ActKind.TheVariants.{Abort, Device, Bus}
use Rattle.unit_law.specs.Request.{plain}
use Rattle.desk_law.specs.declared.refused.Refused.{Refused}
use Rattle.desk_law.specs.Refusals.{Refuses}
use Rattle.world_law.specs.declared.reply.Reply.{Reply}
use Rattle.world_law.specs.declared.reply.Reply.TheVariants as reply
use Rattle.world_law.specs.World.{BenchSetting, World, command_at}
use Rattle.world_law.specs.Lines.{drained}
use Rattle.world_law.specs.Enabling.{Enabled}
use Rattle.world_law.specs.Seeing.{seen}
use Rattle.world_law.specs.Steps.{Does}

-- memory may be wanting for a Build that isn't refused, and for what resets a target or the bus
abbrev pub Resets : ActKind → Type 0
Resets (Abort l) = ⊥
Resets (Device target) = Unit {0}
Resets Bus = Unit {0}

abbrev pub ResetsOf : Option Act → Type 0
ResetsOf None = ⊥
ResetsOf (Some a) = Resets a.kind

abbrev pub AcceptsOf : Option Command → World → Type 0
AcceptsOf None w = ⊥
AcceptsOf (Some c) w = (r : Refused) → Refuses w.desk (plain c.request) r → ⊥

abbrev pub MayWant : BenchSetting → World → Step → Type 0
MayWant g w (step.Build l) = AcceptsOf (command_at g l) w
MayWant g w (step.Act k) = ResetsOf (slice_get g.acts k)
MayWant g w step.ResetBus = Unit {0}
MayWant g w _ = ⊥

-- a list of so many entries may grow, or the world is drained
abbrev pub WithinLimit : BenchSetting → (count : ℕ) → World → Type 0
WithinLimit g count w = count ≡ g.step_limit → drained g w ≡ true

-- The answer to a step after so many entries, and the world then. Where the list is full, the step isn't enabled or memory is wanting, the
-- world is as before.
pub data Answers (g : BenchSetting) (count : ℕ) (old : World) (caller : ℕ) (s : Step) (answer : Reply) (new : World) : Type 0 where
  at_limit : count ≡ g.step_limit → drained g old ≡ false → answer ≡ reply.StepLimit → new ≡ old → Answers g count old caller s answer new
  not_now : WithinLimit g count old → (Enabled g old caller s → ⊥) → answer ≡ reply.NotNow (seen g old caller s) → new ≡ old → Answers g count old caller s answer new
  no_memory : WithinLimit g count old → Enabled g old caller s → MayWant g old s → answer ≡ reply.OutOfMemory → new ≡ old → Answers g count old caller s answer new
  done : WithinLimit g count old → Enabled g old caller s → Does g old caller s answer new → Answers g count old caller s answer new
