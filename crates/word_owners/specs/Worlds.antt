-- The invariant of every world of a run, and what the desk keeps of live tickets there.
use Rattle.std.specs.Prelude.{◌≡◌, List, Some}
use Rattle.rig_types.specs.declared.commands.Command.{Command}
use Rattle.rig_types.specs.declared.step.Line.{Line}
use Rattle.unit_law.specs.Request.{plain}
use Rattle.world_law.specs.Opening.{opened}
use Rattle.world_law.specs.Runs.{Moment, IsRun, last}
use Rattle.world_law.specs.World.{BenchSetting, IsBenchSetting, command_at}
use Rattle.word_owners.specs.BenchSteps.{IsOwned}
use Rattle.word_owners.specs.Builds.{IsOfBytes}
use Rattle.word_owners.specs.KeptDesks.{AreKept}

-- the commands of the work are of bytes, as every u8 is one
abbrev pub HasBytes : BenchSetting → Type 0
HasBytes g = (l : Line) (c : Command) → command_at g l ≡ Some c → IsOfBytes (plain c.request)

-- whatever the rig, the work and the list of steps, with units that break the rules, aborts and resets
abbrev pub WordsAreOwned : Type 0
WordsAreOwned = (g : BenchSetting) → IsBenchSetting g → HasBytes g → (moments : List Moment) → IsRun g (opened g) moments → IsOwned g.version g.units (last (opened g) moments)

-- and of each unit at most as many tickets live as its depth, each with its part of the buffer region
abbrev pub DepthsAreKept : Type 0
DepthsAreKept = (g : BenchSetting) → IsBenchSetting g → HasBytes g → (moments : List Moment) → IsRun g (opened g) moments → AreKept (last (opened g) moments).desk
