-- The world of a run: host memory, the chip, the bus, the desk, and what was decided. The rig and the work stand beside it (own).
use Rattle.std.specs.Prelude.{ℕ, ◌==◌, ◌&&◌, Bool, List, [], position, slice_get, slice_index_or, Option, Some, None, option_map}
use Rattle.bench_words.specs.Memory.{word_at}
use Rattle.rig_types.specs.declared.rig.Unit.{Unit as RigUnit}
use Rattle.rig_types.specs.declared.commands.Command.{Command}
use Rattle.rig_types.specs.declared.acts.Act.{Act}
use Rattle.rig_types.specs.declared.step.Line.{Line}
use Rattle.rig_types.specs.declared.report.Report.{Report}
use Rattle.rig_types.specs.Ranges.{IsRig}
use Rattle.rig_types.specs.Works.{IsWork}
use Rattle.unit_law.specs.Request.{RequestData, plain}
use Rattle.unit_law.specs.declared.entry.LogEntry.{LogEntry}
use Rattle.chip_regs.specs.declared.registers.Regs.{Regs}
use Rattle.target_law.specs.declared.nexus.Nexus.{Nexus}
use Rattle.target_law.specs.Target.{LogicalUnit, unit_at}
use Rattle.bus_law.specs.Bus.{BusState, device_at}
use Rattle.host_map.specs.declared.TheConstants.{FRONT}
use Rattle.desk_law.specs.Desk.{DeskState, unit, ticket_of}
use Rattle.world_law.specs.declared.reply.Stop.{Stop}
use Rattle.world_law.specs.declared.reply.Decided.{Decided}
use Rattle.world_law.specs.declared.reply.Decided.TheVariants.{Open}
use Rattle.world_law.specs.declared.reply.Reply.{Reply}

-- the rig, and the work as the commands of each submitter and the acts
pub record BenchSetting : Type 0 where
  pub version : ℕ
  pub units : List RigUnit
  pub retries : ℕ
  pub step_limit : ℕ
  pub autosense : Bool
  pub submitters : List (List Command)
  pub acts : List Act

-- those of a rig and a work
pub record IsBenchSetting (g : BenchSetting) : Type 0 where
  pub rig : IsRig g.version g.units g.retries g.step_limit
  pub work : IsWork g.submitters g.acts

-- Host memory, the registers, the bus and the desk; the stop stage, and where the chip is to go on, if anywhere but at START; for each
-- submitter what was decided of its lines so far, and what was answered to the acts so far; and the reports.
pub record World : Type 0 where
  pub memory : List ℕ
  pub regs : Regs
  pub bus : BusState
  pub desk : DeskState
  pub stop : Stop
  pub resume : Option ℕ
  pub lines : List (List Decided)
  pub acts : List Reply
  pub reports : List Report

-- ---- lines

-- the commands of a submitter, what was decided of them, and what became of a line
abbrev pub commands_of : BenchSetting → ℕ → List Command
commands_of g s = slice_index_or g.submitters s []

abbrev pub lines_of : World → ℕ → List Decided
lines_of w s = slice_index_or w.lines s []

abbrev pub decided : World → Line → Decided
decided w l = slice_index_or (lines_of w l.submitter) l.number Open

-- the command of a line, and its request
abbrev pub command_at : BenchSetting → Line → Option Command
command_at g l = slice_get (commands_of g l.submitter) l.number

abbrev pub request_at : BenchSetting → Line → Option RequestData
request_at g l = option_map (λ (c : Command). plain c.request) (command_at g l)

-- ---- units

-- the live ticket of a nexus of a target
abbrev pub is_place : (target lun : ℕ) → RigUnit → Bool
is_place target lun u = u.target == target && u.lun == lun

abbrev pub live_by : DeskState → (tag : ℕ) → Option ℕ → Option ℕ
live_by d tag None = None
live_by d tag (Some u) = ticket_of d u tag

abbrev pub live : DeskState → ℕ → Nexus → Option ℕ
live d target n = live_by d n.tag (position (is_place target n.lun) d.units)

-- the log of a unit of the rig
abbrev pub log_by : Option LogicalUnit → List LogEntry
log_by None = []
log_by (Some u) = u.log

abbrev pub log_of : World → ℕ → List LogEntry
log_of w u = log_by (unit_at (device_at w.bus (unit w.desk u).target).target.units (unit w.desk u).lun)

-- the block at FRONT
abbrev pub front : World → ℕ
front w = word_at w.memory FRONT
