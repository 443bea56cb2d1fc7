-- The report of one READ(10), and that it fits its unit. Sources as in unit_law; where the straight script leaves status and data is own.
use Rattle.std.specs.Prelude.{◌≡◌, ℕ, ◌<◌, ◌^◌, ◌==◌, if◌then◌else◌, false, List, [], ◌∷◌, replicate, slice_index, Some}
use Rattle.scsi_words.specs.declared.phases.kinds.Direction.TheVariants.{In}
use Rattle.scsi_words.specs.declared.statuses.kinds.Status.TheVariants.{Good}
use Rattle.scsi_words.specs.Statuses.{status_code}
use Rattle.bench_words.specs.Memory.{bytes_at}
use Rattle.rig_types.specs.declared.report.Outcome.TheVariants.{Done}
use Rattle.rig_types.specs.declared.report.Report.{Report}
use Rattle.chip_regs.specs.Registers.{cause_of}
use Rattle.chip_regs.specs.declared.registers.Cause.TheVariants.{Sir}
use Rattle.chip_step.specs.Chip.{Chip}
use Rattle.straight_run.specs.Opening.{cdb}
use Rattle.straight_run.specs.Steps.{FromOpening}
use Rattle.unit_law.specs.Request.{RequestData}
use Rattle.unit_law.specs.declared.entry.LogEntry.{LogEntry}
use Rattle.unit_law.specs.Log.{run_log, tally, view_of}
use Rattle.unit_law.specs.Report.{UnitSetting, TicketHistory, Fits, SenseFits}
use Rattle.target_law.specs.Target.{LogicalUnit, unit_at}
use Rattle.one_target.specs.Bus.{BusState, moves}
use Rattle.one_target.specs.Opening.{one_plain, IsOpened}

-- the buffer as submitted
unfoldable pub submitted : List ℕ
submitted = replicate 512 0

-- READ(10) of the one block at an address, into one segment
abbrev pub request_of : ℕ → RequestData
request_of lba = record { unit = 0; cdb = cdb lba; segments = 512 ∷ []; direction = In; bytes = submitted }

-- the rig's word on the unit, and what the log says of a ticket that is live all the time, without acts and resets: every Clear of its unit's
-- log is its own, and has no cause
abbrev pub the_setting : UnitSetting
the_setting = record { retries = 0; autosense = false; absent = false; rogue = false }

abbrev pub the_course : List LogEntry → TicketHistory
the_course log = record { marked = false; clears = (tally 0 log).clears; bus_reset = false; outside = 0; uncaused_clears = (tally 0 log).clears }

-- ticket 0 is done with this status byte, and its buffer holds these bytes
abbrev pub report_with : ℕ → List ℕ → Report
report_with status bytes = record {
  ticket = 0;
  unit = 0;
  outcome = Done;
  status = status;
  residual = if status == status_code Good then 0 else 512;
  tries = 1;
  bytes = bytes;
  sense = [];
}

-- the report that host memory holds when the straight script has ended: the status lies at 0x10014, the buffer at 0x200000
abbrev pub report_in : List ℕ → Report
report_in memory = report_with (slice_index memory 0x10014) (bytes_at memory 0x200000 512)

-- The report is the one that host memory holds at INT 7, and fits its unit: from an opened bus the chip made the steps of the straight script
-- up to INT 7, the unit is what its log makes of it alone, and the report that memory then holds is one of ticket 0 that fits this log.
pub record OneReport (lba : ℕ) (q : Report) : Type 0 where
  pub bus : BusState
  pub opened : IsOpened bus
  pub chip : Chip BusState
  pub ran : FromOpening moves lba bus chip
  pub through : cause_of chip.regs ≡ Some (Sir 7)
  pub unit : LogicalUnit
  pub unit_is : unit_at chip.bus.target.units 0 ≡ Some unit
  pub alone : unit.plain ≡ (run_log (λ t. request_of lba) one_plain unit.log).unit
  pub report_is : q ≡ report_in chip.memory
  pub fits : Fits the_setting 0 (request_of lba) (view_of (λ t. request_of lba) one_plain unit.log 0) (the_course unit.log) q
  pub sense : SenseFits the_setting (view_of (λ t. request_of lba) one_plain unit.log 0) (the_course unit.log) q

-- whatever steps the straight script made from an opened bus, host memory then holds the report
abbrev pub Reported : Type 0
Reported = (lba : ℕ) → lba < 2 ^ 32 → (bus : BusState) → IsOpened bus → (chip : Chip BusState) → FromOpening moves lba bus chip → OneReport lba (report_in chip.memory)
