-- Every report of a run fits the log of its unit: the statement over all runs (own). No contract rests on it yet.
use Rattle.std.specs.Prelude.{ℕ, List, [], unwrap_or}
use Rattle.std.specs.List.{All}
use Rattle.scsi_words.specs.declared.phases.kinds.Direction.TheVariants.{None as NoData}
use Rattle.rig_types.specs.declared.report.Report.{Report}
use Rattle.plain_lun.specs.Unit.{UnitState, opened as unit_opened}
use Rattle.unit_law.specs.Request.{RequestData}
use Rattle.unit_law.specs.Log.{View, view_of}
use Rattle.unit_law.specs.Report.{UnitSetting, Fits, SenseFits}
use Rattle.desk_law.specs.Desk.{ticket, unit}
use Rattle.world_law.specs.World.{BenchSetting, World, IsBenchSetting, request_at, log_of}
use Rattle.world_law.specs.Opening.{opened}
use Rattle.world_law.specs.Runs.{Moment, IsRun, last}
use Rattle.run_law.specs.History.{history}

-- the request of each ticket: that of its line
abbrev pub no_request : RequestData
no_request = record { unit = 0; cdb = []; segments = []; direction = NoData; bytes = [] }

abbrev pub request_of : BenchSetting → World → ℕ → RequestData
request_of g w t = unwrap_or (request_at g (ticket w.desk t).line) no_request

-- a unit at the opening, and what the rig says of it
abbrev pub plain_opened : World → ℕ → UnitState
plain_opened w u = unit_opened (unit w.desk u).blocks (unit w.desk u).pattern

abbrev pub unit_setting : BenchSetting → World → ℕ → UnitSetting
unit_setting g w u = record { retries = g.retries; autosense = g.autosense; absent = (unit w.desk u).absent; rogue = (unit w.desk u).rogue }

-- what the log of a unit says of a ticket
abbrev pub view : BenchSetting → World → (u t : ℕ) → View
view g w u t = view_of (request_of g w) (plain_opened w u) (log_of w u) t

-- a report fits, in the world w at the end of a run
pub record ReportFits (g : BenchSetting) (ms : List Moment) (w : World) (r : Report) : Type 0 where
  pub fits : Fits (unit_setting g w r.unit) r.ticket (request_of g w r.ticket) (view g w r.unit r.ticket) (history g r.unit r.ticket (opened g) ms) r
  pub sense_fits : SenseFits (unit_setting g w r.unit) (view g w r.unit r.ticket) (history g r.unit r.ticket (opened g) ms) r

abbrev pub AllFit : Type 0
AllFit = (g : BenchSetting) (ms : List Moment) → IsBenchSetting g → IsRun g (opened g) ms → All (ReportFits g ms (last (opened g) ms)) (last (opened g) ms).reports
