-- While a task shows COMMAND COMPLETE its ticket has the status that was told. Source: own.
use Rattle.std.specs.Prelude.{◌≡◌, ℕ, Bool, true, false}
use Rattle.scsi_words.specs.Statuses.{status_code}
use Rattle.target_law.specs.declared.task_phase.TargetMessage.{TargetMessage}
use Rattle.target_law.specs.declared.task_phase.TargetMessage.TheVariants.{CommandComplete}
use Rattle.target_law.specs.declared.task_phase.TaskPhase.{TaskPhase}
use Rattle.target_law.specs.declared.task_phase.TaskPhase.TheVariants.{MessageIn}
use Rattle.target_law.specs.Bytes.{status_told}
use Rattle.target_law.specs.Target.{ConnectionState, TaskConnected, Target}
use Rattle.ticket_fate.specs.Laws.{Reached}
use Rattle.ticket_fate.specs.Tickets.{Plan, Ticket}

abbrev pub ToldWith : TargetMessage → (status : ℕ) → Type 0
ToldWith (CommandComplete v) status = status ≡ status_code (status_told v)
ToldWith n status = Unit {0}

abbrev pub ToldIn : TaskPhase → (status : ℕ) → Type 0
ToldIn (MessageIn n sent) status = ToldWith n status
ToldIn shows status = Unit {0}

-- of a sense task nothing is said: the status of its command's end stays
abbrev pub ToldBy : (senses : Bool) → TaskPhase → (status : ℕ) → Type 0
ToldBy true shows status = Unit {0}
ToldBy false shows status = ToldIn shows status

abbrev pub IsTold : (ℕ → Ticket) → ConnectionState → Type 0
IsTold ks (TaskConnected c) = ToldBy c.task.senses c.shows (ks c.task.ticket).status
IsTold ks l = Unit {0}

-- after every list of moves, at each target
abbrev pub StatusesAreTold : Type 0
StatusesAreTold = (p : Plan) (count : ℕ) (ks : ℕ → Ticket) (ts : ℕ → Target) → Reached p count ks ts → (i : ℕ) → IsTold ks (ts i).link
