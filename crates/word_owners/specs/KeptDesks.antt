-- Each step of the bench but Build keeps how many tickets of a unit live, and what they own of the buffer region.
use Rattle.std.specs.Prelude.{◌≡◌, ℕ, false}
use Rattle.rig_types.specs.declared.step.Step.{Step}
use Rattle.world_law.specs.declared.reply.Reply.{Reply}
use Rattle.world_law.specs.World.{BenchSetting, World}
use Rattle.world_law.specs.Enabling.{Enabled}
use Rattle.world_law.specs.Steps.{Does}
use Rattle.desk_law.specs.Desk.{DeskState}
use Rattle.word_owners.specs.BenchSteps.{is_build}
use Rattle.word_owners.specs.Spaces.{OwnsSpace}
use Rattle.word_owners.specs.FreePlaces.{HasDepths}

pub record AreKept (d : DeskState) : Type 0 where
  pub depths : HasDepths d
  pub space : OwnsSpace d

abbrev pub DesksKept : Type 0
DesksKept =
    (g : BenchSetting) (w new : World) (caller : ℕ) (s : Step) (answer : Reply) → is_build s ≡ false → Enabled g w caller s → Does g w caller s answer new → AreKept w.desk → AreKept new.desk
