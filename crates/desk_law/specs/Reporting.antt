-- The report that Free makes (own).
use Rattle.std.specs.Prelude.{ℕ, ◌==◌, ◌+◌, if◌then◌else◌, List, [], length, unwrap_or}
use Rattle.scsi_words.specs.declared.statuses.kinds.Status.TheVariants as status
use Rattle.scsi_words.specs.Statuses.{status_code}
use Rattle.bench_words.specs.Memory.{word_at, bytes_at}
use Rattle.rig_types.specs.declared.report.Outcome.{Outcome}
use Rattle.rig_types.specs.declared.report.Outcome.TheVariants.{Done}
use Rattle.rig_types.specs.declared.report.Report.{Report}
use Rattle.cmd_block.specs.Block.{field_of}
use Rattle.cmd_block.specs.declared.Field.TheVariants.{Lastp}
use Rattle.cmd_block.specs.declared.TheConstants.{SENSE}
use Rattle.phase_fix.specs.Remain.{remain}
use Rattle.unit_law.specs.Report.{no_status}
use Rattle.desk_law.specs.declared.ticket.Ticket.{Ticket}
use Rattle.desk_law.specs.Desk.{DeskState, ticket}
use Rattle.desk_law.specs.Blocks.{buffer_length, buffer}
use Rattle.desk_law.specs.Taking.{status_byte}

abbrev pub outcome_of : Ticket → Outcome
outcome_of k = unwrap_or k.outcome Done

-- a ticket whose sense was to be asked for had answered CHECK CONDITION
abbrev pub done_status : List ℕ → Ticket → ℕ
done_status m k = if k.checked then status_code status.Check else status_byte m k

abbrev pub status_of : Outcome → List ℕ → Ticket → ℕ
status_of Done m k = done_status m k
status_of _ m k = no_status

-- how much of the buffer is still to be moved, where the status is GOOD; else its length
abbrev pub residual_of : (status : ℕ) → List ℕ → Ticket → ℕ
residual_of st m k =
    if st == status_code status.Good then length (remain (word_at m) k.block (field_of m k.block Lastp)) else buffer_length k

-- the 18 bytes of the sense area, where the REQUEST SENSE was taken
abbrev pub sense_of : List ℕ → Ticket → List ℕ
sense_of m k = if k.sensed then bytes_at m (k.block + SENSE) 18 else []

abbrev pub report_of : List ℕ → (number : ℕ) → Ticket → Report
report_of m number k = record {
  ticket = number;
  unit = k.unit;
  outcome = outcome_of k;
  status = status_of (outcome_of k) m k;
  residual = residual_of (status_of (outcome_of k) m k) m k;
  tries = k.tries;
  bytes = buffer m k;
  sense = sense_of m k;
}

abbrev pub report_at : DeskState → List ℕ → ℕ → Report
report_at d m t = report_of m t (ticket d t)
