-- TakeDone: what becomes of the ticket whose block stands in the done slot (own; BUSY, QUEUE FULL and CHECK CONDITION are SCSI-2's, 7.3
-- status).
use Rattle.std.specs.Prelude.{ℕ, ◌%◌, ◌==◌, ◌&&◌, ◌||◌, nat_le, not, if◌then◌else◌, Bool, true, false, List}
use Rattle.scsi_words.specs.declared.statuses.kinds.Status.TheVariants as status
use Rattle.scsi_words.specs.Statuses.{status_code}
use Rattle.bench_words.specs.Memory.{put_word}
use Rattle.rig_types.specs.declared.report.Outcome.{Outcome}
use Rattle.rig_types.specs.declared.report.Outcome.TheVariants.{Done, Cut, NoTarget, Broken}
use Rattle.host_map.specs.declared.TheConstants.{DONE_RING, IDLE}
use Rattle.cmd_block.specs.Block.{field_of}
use Rattle.cmd_block.specs.declared.Field.TheVariants.{Restart, State, Status}
use Rattle.cmd_block.specs.declared.TheConstants.{ENDED, CUT, NO_TARGET}
use Rattle.driver_script.specs.Script.{label_of}
use Rattle.driver_script.specs.declared.labels.Name.TheVariants as label
use Rattle.job_rings.specs.Rings.{next_slot}
use Rattle.desk_law.specs.declared.stage.Stage.TheVariants.{Again, Check}
use Rattle.desk_law.specs.declared.ticket.Ticket.{Ticket}
use Rattle.desk_law.specs.Desk.{DeskState, ticket, with_ticket, is_rogue, is_sensing}
use Rattle.desk_law.specs.Blocks.{no_status_yet}
use Rattle.desk_law.specs.Calls.{ended}

abbrev pub state_of : List ℕ → Ticket → ℕ
state_of m k = field_of m k.block State

-- the low byte of STATUS
abbrev pub status_byte : List ℕ → Ticket → ℕ
status_byte m k = field_of m k.block Status % 256

abbrev pub has_status : List ℕ → Ticket → ℕ → Bool
has_status m k code = state_of m k == ENDED && status_byte m k == code

-- the target answered BUSY or QUEUE FULL, and tries are left
abbrev pub is_again : DeskState → List ℕ → Ticket → Bool
is_again d m k = (has_status m k (status_code status.Busy) || has_status m k (status_code status.QueueFull)) && nat_le k.tries d.retries

-- an abort has marked the block
abbrev pub is_marked : List ℕ → Ticket → Bool
is_marked m k = field_of m k.block Restart == label_of label.Abort

-- it answered CHECK CONDITION, and the driver is to ask for the sense: not of a unit that breaks the rules, nor after an abort
abbrev pub is_check : DeskState → List ℕ → Ticket → Bool
is_check d m k = has_status m k (status_code status.Check) && (d.autosense && (not (is_rogue d k) && not (is_marked m k)))

-- a unit that breaks the rules may end without a status
abbrev pub outcome_by : (state status : ℕ) → Outcome
outcome_by state status =
    if state == CUT then Cut else (if state == NO_TARGET then NoTarget else (if status == no_status_yet then Broken else Done))

-- the ticket after it was taken; a REQUEST SENSE is over, however it ended
abbrev pub taken_by : (sensing again check : Bool) → List ℕ → Ticket → Ticket
taken_by true again check m k = record (ended k Done) { sensed = true }
taken_by false true check m k = record k { stage = Again }
taken_by false false true m k = record k { stage = Check; checked = true }
taken_by false false false m k = ended k (outcome_by (state_of m k) (status_byte m k))

abbrev pub taken : DeskState → List ℕ → Ticket → Ticket
taken d m k = taken_by (is_sensing k.stage) (is_again d m k) (is_check d m k) m k

abbrev pub takes : DeskState → List ℕ → ℕ → DeskState
takes d m t = record (with_ticket d t (taken d m (ticket d t))) { take = next_slot DONE_RING d.take }

-- memory with the done slot idle
abbrev pub take_memory : DeskState → List ℕ → List ℕ
take_memory d m = put_word m d.take IDLE
