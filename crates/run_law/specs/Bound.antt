-- How many entries a lawful list may have, where no unit breaks the rules (own).
use Rattle.std.specs.Prelude.{ℕ, ◌+◌, ◌*◌, max, fold, if◌then◌else◌, Bool, true, false, List, length, sum_by, count_by}
use Rattle.rig_types.specs.declared.rig.Unit.{Unit as RigUnit}
use Rattle.rig_types.specs.declared.commands.Command.{Command}
use Rattle.rig_types.specs.declared.acts.Act.{Act}
use Rattle.rig_types.specs.declared.acts.ActKind.{ActKind}
use Rattle.rig_types.specs.declared.acts.ActKind.TheVariants.{Abort, Device, Bus}
use Rattle.world_law.specs.World.{BenchSetting}

abbrev pub command_count : BenchSetting → ℕ
command_count g = sum_by (λ (cs : List Command). length cs) g.submitters

-- the driver may ask for the sense of each command
abbrev pub sense_count : BenchSetting → ℕ
sense_count g = if g.autosense then command_count g else 0

abbrev pub is_reset : ActKind → Bool
is_reset (Abort l) = false
is_reset (Device target) = true
is_reset Bus = true

abbrev pub reset_count : BenchSetting → ℕ
reset_count g = count_by (λ (a : Act). is_reset a.kind) g.acts

abbrev pub most_disconnects : List RigUnit → ℕ
most_disconnects us = fold (λ (d : ℕ) (u : RigUnit). max d u.disconnects) 0 us

-- each try of a command, with its disconnections, costs at most 256 steps, and so does each sense, each act and the opening; each reset 1,024
-- more
abbrev pub bound : BenchSetting → ℕ
bound g =
    256 * (command_count g * (g.retries + 1) * (most_disconnects g.units + 2) + sense_count g + length g.acts + 1) + 1024 * reset_count g
