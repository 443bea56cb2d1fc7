-- What a unit's log says of the unit, and of each ticket. A log is in its order, with new entries at its end. Source: own; a command is
-- performed as the unit alone performs it.
use Rattle.std.specs.Prelude.{ℕ, zero, suc, ◌+◌, ◌==◌, if◌then◌else◌, Bool, List, take, fold, Option, Some, None, []}
use Rattle.scsi_words.specs.declared.statuses.kinds.Status.{Status}
use Rattle.cdb_codec.specs.declared.commands.Cdb.TheVariants.{RequestSense}
use Rattle.plain_lun.specs.Unit.{UnitState}
use Rattle.plain_lun.specs.Performing.{Answered, Performed, perform}
use Rattle.plain_lun.specs.Losing.{dropped, cleared}
use Rattle.unit_law.specs.declared.entry.LogEntry.{LogEntry}
use Rattle.unit_law.specs.declared.entry.LogEntry.TheVariants.{Refuse, Look, End, Drop, Clear, Sense}
use Rattle.unit_law.specs.Request.{RequestData, command, received_of}

-- f with the value v at k
unfoldable pub with_at : {A : Type 0} → (ℕ → A) → ℕ → A → ℕ → A
with_at f k v x = if x == k then v else f x

-- what a log gives: the unit at last, for each ticket with Look or End its status and data, and for each with Sense its sense bytes
pub record LogResult : Type 0 where
  pub unit : UnitState
  pub answers : ℕ → Option Answered
  pub senses : ℕ → Option (List ℕ)

-- a log that says nothing yet
abbrev pub log_result_none : UnitState → LogResult
log_result_none u = record { unit = u; answers = λ t. None; senses = λ t. None }

-- the ticket's command is performed, and its answer kept
abbrev pub performed : (ℕ → RequestData) → LogResult → ℕ → Performed → LogResult
performed requests r t p = record { unit = p.unit; answers = with_at r.answers t (Some p.answer); senses = r.senses }

abbrev pub performs : (ℕ → RequestData) → LogResult → ℕ → LogResult
performs requests r t = performed requests r t (perform r.unit (command (requests t)) (received_of (requests t)))

-- an End takes what was kept at Look; any other command is performed then
abbrev pub ended : (ℕ → RequestData) → LogResult → ℕ → Option Answered → LogResult
ended requests r t (Some kept) = r
ended requests r t None = performs requests r t

-- REQUEST SENSE of 18 bytes is performed, and gives the ticket its sense bytes
abbrev pub sensed : LogResult → ℕ → Performed → LogResult
sensed r t p = record { unit = p.unit; answers = r.answers; senses = with_at r.senses t (Some p.answer.bytes) }

abbrev pub entered : (ℕ → RequestData) → LogResult → LogEntry → LogResult
entered requests r (Refuse t s) = r
entered requests r (Look t) = performs requests r t
entered requests r (End t) = ended requests r t (r.answers t)
entered requests r (Drop t high) = record { unit = dropped r.unit (command (requests t)) (take high (received_of (requests t))); answers = r.answers; senses = r.senses }
entered requests r Clear = record { unit = cleared r.unit; answers = r.answers; senses = r.senses }
entered requests r (Sense t) = sensed r t (perform r.unit (RequestSense 18) [])

-- the unit at its opening, run through its log
unfoldable pub run_log : (ℕ → RequestData) → UnitState → List LogEntry → LogResult
run_log requests u log = fold (entered requests) (log_result_none u) log

-- the entries of one ticket: how many of each kind, the status of its last refusal, how far its drop went, and how many of its Sense
-- entries come before an End; and all Clears
pub record Tally : Type 0 where
  pub refusals : ℕ
  pub looks : ℕ
  pub ends : ℕ
  pub drops : ℕ
  pub senses : ℕ
  pub early : ℕ
  pub refused : Option Status
  pub high : ℕ
  pub clears : ℕ

abbrev pub none_of : Tally
none_of = record { refusals = 0; looks = 0; ends = 0; drops = 0; senses = 0; early = 0; refused = None; high = 0; clears = 0 }

abbrev pub if_of : Bool → Tally → Tally → Tally
if_of same new old = if same then new else old

-- a Sense is early where no End was noted yet
abbrev pub one_where_none : ℕ → ℕ
one_where_none zero = 1
one_where_none (suc ends) = 0

-- one more entry; a Clear is counted for every ticket
abbrev pub noted : ℕ → Tally → LogEntry → Tally
noted t k (Refuse x s) = if_of (x == t) (record k { refusals = k.refusals + 1; refused = Some s }) k
noted t k (Look x) = if_of (x == t) (record k { looks = k.looks + 1 }) k
noted t k (End x) = if_of (x == t) (record k { ends = k.ends + 1 }) k
noted t k (Drop x high) = if_of (x == t) (record k { drops = k.drops + 1; high = high }) k
noted t k Clear = record k { clears = k.clears + 1 }
noted t k (Sense x) = if_of (x == t) (record k { senses = k.senses + 1; early = k.early + one_where_none k.ends }) k

unfoldable pub tally : ℕ → List LogEntry → Tally
tally t log = fold (noted t) none_of log

-- all that a log says of one ticket
pub record View : Type 0 where
  pub tally : Tally
  pub answer : Option Answered
  pub sense : Option (List ℕ)

abbrev pub view_of : (ℕ → RequestData) → UnitState → List LogEntry → ℕ → View
view_of requests u log t = record { tally = tally t log; answer = (run_log requests u log).answers t; sense = (run_log requests u log).senses t }
