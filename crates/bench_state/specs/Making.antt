-- What an enabled step makes, want of memory with it (own).
use Rattle.std.specs.Prelude.{◌≡◌, ◌<◌, ℕ, Bool, true, false}
use Rattle.rig_types.specs.declared.step.Step.{Step}
use Rattle.rig_types.specs.declared.acts.ActKind.{ActKind}
use Rattle.rig_types.specs.declared.acts.ActKind.TheVariants.{Device}
use Rattle.world_law.specs.declared.reply.Reply.{Reply}
use Rattle.world_law.specs.declared.reply.Reply.TheVariants as reply
use Rattle.world_law.specs.declared.reply.Stop.{Stop}
use Rattle.world_law.specs.declared.reply.Stop.TheVariants as stop
use Rattle.world_law.specs.World.{BenchSetting, World}
use Rattle.world_law.specs.Acts.{acts_by}
use Rattle.world_law.specs.Steps.{Does}
use Rattle.world_law.specs.Answers.{Resets, MayWant}

-- while a mismatch is to be repaired or tickets are to be swept, the bus isn't reset
abbrev pub is_held : Stop → Bool
is_held stop.Mismatch = true
is_held stop.Clear = true
is_held _ = false

-- where memory is wanting nothing changes
pub data Makes (g : BenchSetting) (old : World) (caller : ℕ) (s : Step) (answer : Reply) (new : World) : Type 0 where
  wants : MayWant g old s → answer ≡ reply.OutOfMemory → new ≡ old → Makes g old caller s answer new
  does : Does g old caller s answer new → Makes g old caller s answer new

-- the same of an act
pub data MakesAct (old : World) (kind : ActKind) (answer : Reply) (new : World) : Type 0 where
  act_wants : Resets kind → answer ≡ reply.OutOfMemory → new ≡ old → MakesAct old kind answer new
  act_does : answer ≡ (acts_by old kind).answer → new ≡ (acts_by old kind).world → MakesAct old kind answer new

-- a device act names one of the SCSI IDs of targets, 0 to 6
abbrev pub HasTarget : ActKind → Type 0
HasTarget (Device target) = target < 7
HasTarget _ = Unit {0}
