-- What the words of a ticket's block, its sense area and its buffer are for its report. Source: own.
use Rattle.std.specs.Prelude.{◌≡◌, ℕ, ◌+◌, ◌<◌, true, false, List, [], length, drop}
use Rattle.scsi_words.specs.declared.statuses.kinds.Status.TheVariants.{Good, Check}
use Rattle.scsi_words.specs.Statuses.{status_code}
use Rattle.bench_words.specs.Memory.{word_at, bytes_at}
use Rattle.cmd_block.specs.Block.{field_of}
use Rattle.cmd_block.specs.declared.Field.TheVariants.{Lastp}
use Rattle.cmd_block.specs.declared.TheConstants.{SENSE}
use Rattle.phase_fix.specs.Remain.{remain}
use Rattle.rig_types.specs.declared.report.Outcome.{Outcome}
use Rattle.rig_types.specs.declared.report.Outcome.TheVariants.{Done}
use Rattle.desk_law.specs.declared.ticket.Ticket.{Ticket as DeskTicket}
use Rattle.desk_law.specs.Desk.{ticket}
use Rattle.desk_law.specs.Blocks.{buffer_length, own, buffer}
use Rattle.desk_law.specs.Taking.{status_byte}
use Rattle.desk_law.specs.Reporting.{report_at}
use Rattle.ticket_fate.specs.Tickets.{Plan, Unlinked, Ticket, freed_report}
use Rattle.world_law.specs.Opening.{opened}
use Rattle.world_law.specs.Runs.{Moment, IsRun, last}
use Rattle.world_law.specs.World.{BenchSetting}
use Rattle.run_joined.specs.Joined.{IsJoined}
use Rattle.run_joined.specs.Plans.{IsPlanOf}

-- Of a ticket that comes to outcome Done, STATUS has the byte that the target told; once its sense was to be asked for the block has that of the sense,
-- and the target had told CHECK CONDITION. After GOOD, LASTP denotes the buffer from the ticket's position on. The buffer has the ticket's bytes, and
-- the sense area its sense, where that was taken; else it has none.
pub record ReportAgrees (m : List ℕ) (x : DeskTicket) (k : Ticket) (o : Outcome) : Type 0 where
  pub status : o ≡ Done → x.checked ≡ false → status_byte m x ≡ k.status
  pub checked : o ≡ Done → x.checked ≡ true → k.status ≡ status_code Check
  pub last : o ≡ Done → k.status ≡ status_code Good → remain (word_at m) x.block (field_of m x.block Lastp) ≡ drop k.lastp (own x)
  pub bytes : buffer m x ≡ k.buffer
  pub sensed : x.sensed ≡ true → bytes_at m (x.block + SENSE) 18 ≡ k.sense
  pub unsensed : x.sensed ≡ false → k.sense ≡ []

-- the buffer of each ticket has as many bytes as its request, in every world of every run
abbrev pub BuffersFitRequests : Type 0
BuffersFitRequests =
    (g : BenchSetting) (p : Plan) (ms : List Moment) → IsRun g (opened g) ms → IsPlanOf g (last (opened g) ms) p → (t : ℕ) → t < length (last (opened g) ms).desk.tickets
    → buffer_length (ticket (last (opened g) ms).desk t) ≡ length (p.requests t).bytes

-- So where these agree with an unlinked ticket, the report that Free makes of memory is the one that the moves make of the ticket: its outcome, status,
-- residual, tries, bytes and sense, whatever the outcome.
abbrev pub ReportsAgree : Type 0
ReportsAgree =
    (g : BenchSetting) (p : Plan) (ms : List Moment) (ks : ℕ → Ticket) (spare : ℕ → ℕ) (t : ℕ) (o : Outcome) → IsRun g (opened g) ms → IsPlanOf g (last (opened g) ms) p → IsJoined g p (last (opened g) ms) ks spare
    → (ks t).life ≡ Unlinked o → ReportAgrees (last (opened g) ms).memory (ticket (last (opened g) ms).desk t) (ks t) o
    → report_at (last (opened g) ms).desk (last (opened g) ms).memory t ≡ freed_report t (p.requests t) (ks t) o
