-- What is asked at TakeDone and Sweep of the ticket that they take, for its report to be the one that the moves make; nothing is at other steps. Source: own.
use Rattle.std.specs.Prelude.{◌≡◌, ℕ, ◌+◌, false, List, [], ◌∷◌, ◌++◌, drop, Some}
use Rattle.scsi_words.specs.declared.statuses.kinds.Status.TheVariants.{Good}
use Rattle.scsi_words.specs.Statuses.{status_code}
use Rattle.bench_words.specs.Memory.{word_at, bytes_at}
use Rattle.cmd_block.specs.Block.{field_of}
use Rattle.cmd_block.specs.declared.Field.TheVariants.{Lastp}
use Rattle.cmd_block.specs.declared.TheConstants.{SENSE}
use Rattle.phase_fix.specs.Remain.{remain}
use Rattle.rig_types.specs.declared.report.Outcome.TheVariants.{Done}
use Rattle.rig_types.specs.declared.step.Step.TheVariants as step
use Rattle.desk_law.specs.declared.ticket.Ticket.{Ticket as DeskTicket}
use Rattle.desk_law.specs.Blocks.{own, buffer}
use Rattle.desk_law.specs.Desk.{ticket, is_sensing, is_rogue}
use Rattle.desk_law.specs.Rings.{done_ticket}
use Rattle.desk_law.specs.Taking.{state_of, status_byte}
use Rattle.ticket_fate.specs.Tickets.{Plan, Life, Lost, Rejected, Finished, AskLost, Asked, Ticket}
use Rattle.world_law.specs.Opening.{opened}
use Rattle.world_law.specs.Runs.{Moment, Steps, IsRun, last}
use Rattle.world_law.specs.World.{BenchSetting, IsBenchSetting}
use Rattle.word_owners.specs.Worlds.{HasBytes}
use Rattle.run_joined.specs.BlockWords.{StateAgrees, StatusAgrees}
use Rattle.run_joined.specs.DeskLives.{IsLostToReset}
use Rattle.run_joined.specs.Joined.{StepJoins}
use Rattle.run_joined.specs.JoinedRuns.{RunJoins}
use Rattle.run_joined.specs.Plans.{IsPlanOf}
use Rattle.block_words.specs.ReportedRuns.{AreReported, is_ending, IsReportedRun}

-- By the life before the step: the buffer has the ticket's bytes; after GOOD, LASTP denotes the buffer from the ticket's position on; and once its sense
-- was asked for, the sense area has the ticket's. Of a ticket of a unit that breaks the rules nothing is asked:
-- the moves make of it what memory says.
abbrev pub EndAgrees : Life → List ℕ → DeskTicket → Ticket → Type 0
EndAgrees (Rejected st) m x k = buffer m x ≡ k.buffer
EndAgrees (Finished o) m x k = (buffer m x ≡ k.buffer) × (o ≡ Done → k.status ≡ status_code Good → remain (word_at m) x.block (field_of m x.block Lastp) ≡ drop k.lastp (own x))
EndAgrees Lost m x k = buffer m x ≡ k.buffer
EndAgrees AskLost m x k = buffer m x ≡ k.buffer
EndAgrees Asked m x k = (buffer m x ≡ k.buffer) × (bytes_at m (x.block + SENSE) 18 ≡ k.area)
EndAgrees l m x k = Unit {0}

-- where that is so, and STATE and STATUS agree with the life, the run is joined and reported after TakeDone too
abbrev pub TakesReport : Type 0
TakesReport =
    (g : BenchSetting) (p : Plan) (ms : List Moment) (m : Moment) (ks : ℕ → Ticket) (t : ℕ) → IsBenchSetting g → HasBytes g → IsRun g (opened g) ms → Steps g (last (opened g) ms) m → IsPlanOf g (last (opened g) ms) p
    → RunJoins g p ms ks → AreReported p (last (opened g) ms) ks → m.entry.step ≡ step.TakeDone → done_ticket (last (opened g) ms).memory (last (opened g) ms).desk ≡ Some t
    → StateAgrees (ks t).life (state_of (last (opened g) ms).memory (ticket (last (opened g) ms).desk t))
    → StatusAgrees (ks t).life (status_byte (last (opened g) ms).memory (ticket (last (opened g) ms).desk t)) (ks t).status
    → EndAgrees (ks t).life (last (opened g) ms).memory (ticket (last (opened g) ms).desk t) (ks t) → IsReportedRun g p (ms ++ m ∷ [])

-- and so after Sweep of a ticket that a reset took from the chip
abbrev pub SweepsReport : Type 0
SweepsReport =
    (g : BenchSetting) (p : Plan) (ms : List Moment) (m : Moment) (ks : ℕ → Ticket) (t : ℕ) → IsBenchSetting g → HasBytes g → IsRun g (opened g) ms → Steps g (last (opened g) ms) m → IsPlanOf g (last (opened g) ms) p
    → RunJoins g p ms ks → AreReported p (last (opened g) ms) ks → m.entry.step ≡ step.Sweep t
    → IsLostToReset (ks t).life (is_sensing (ticket (last (opened g) ms).desk t).stage) (is_rogue (last (opened g) ms).desk (ticket (last (opened g) ms).desk t))
    → EndAgrees (ks t).life (last (opened g) ms).memory (ticket (last (opened g) ms).desk t) (ks t) → IsReportedRun g p (ms ++ m ∷ [])

-- and so after every other step that is joined, those of the chip among them, with nothing asked of memory
abbrev pub JoinedStepsReport : Type 0
JoinedStepsReport =
    (g : BenchSetting) (p : Plan) (ms : List Moment) (m : Moment) (ks : ℕ → Ticket) → IsBenchSetting g → HasBytes g → IsRun g (opened g) ms → Steps g (last (opened g) ms) m → IsPlanOf g (last (opened g) ms) p
    → RunJoins g p ms ks → AreReported p (last (opened g) ms) ks → is_ending m.entry.step ≡ false → StepJoins g p (last (opened g) ms) m ks → IsReportedRun g p (ms ++ m ∷ [])
