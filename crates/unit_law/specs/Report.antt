-- A report fits what its unit alone gives, run through its own log. Source: own.
use Rattle.std.specs.Prelude.{◌≡◌, ℕ, ◌+◌, ◌-◌, ◌<◌, ◌≤◌, Bool, true, false, List, [], ◌++◌, length, take, drop, Option, Some, None, unwrap_or, ◌⊎◌}
use Rattle.scsi_words.specs.declared.phases.kinds.Direction.{Direction}
use Rattle.scsi_words.specs.declared.phases.kinds.Direction.TheVariants.{In, Out, None as NoData}
use Rattle.scsi_words.specs.declared.statuses.kinds.Status.{Status}
use Rattle.scsi_words.specs.declared.statuses.kinds.Status.TheVariants.{Good, Check, Busy, Conflict, QueueFull}
use Rattle.scsi_words.specs.Statuses.{status_code}
use Rattle.cdb_codec.specs.Forms.{need_of}
use Rattle.rig_types.specs.declared.report.Outcome.{Outcome}
use Rattle.rig_types.specs.declared.report.Outcome.TheVariants.{Done, Cut, Reset, NoTarget, Broken}
use Rattle.rig_types.specs.declared.report.Report.{Report}
use Rattle.plain_lun.specs.Performing.{Answered}
use Rattle.unit_law.specs.Request.{RequestData, command}
use Rattle.unit_law.specs.Log.{Tally, View}

-- what the rig says of the ticket's unit
pub record UnitSetting : Type 0 where
  pub retries : ℕ
  pub autosense : Bool
  pub absent : Bool
  pub rogue : Bool

-- what a list of steps says of the ticket: an abort of it answered Marked; how many Clears its unit's log got after the ticket was first
-- queued and before its report; the bus was reset between its End and its Free; how many of its entries were added before its Build or
-- after its Free; and how many Clears of its unit's log were added neither by a bus reset nor by the connection of a device reset of
-- its target that an earlier act started
pub record TicketHistory : Type 0 where
  pub marked : Bool
  pub clears : ℕ
  pub bus_reset : Bool
  pub outside : ℕ
  pub uncaused_clears : ℕ

-- the first h bytes of the data, then the rest of the submitted bytes
unfoldable pub filled : List ℕ → ℕ → List ℕ → List ℕ
filled sent h submitted = take h sent ++ drop h submitted

-- the buffer after h bytes of the data
abbrev pub holding : Direction → List ℕ → ℕ → List ℕ → List ℕ
holding In sent h submitted = filled sent h submitted
holding Out sent h submitted = submitted
holding NoData sent h submitted = submitted

-- how many bytes a command moved that ended with GOOD: its data, or what it needed
abbrev pub moved : Direction → List ℕ → ℕ → ℕ
moved In sent n = length sent
moved Out sent n = n
moved NoData sent n = 0

-- a number where the status is GOOD, else 0
abbrev pub if_good : Status → ℕ → ℕ
if_good Good n = n
if_good Check n = 0
if_good Busy n = 0
if_good Conflict n = 0
if_good QueueFull n = 0

-- the data that an answer has, if there is one
abbrev pub data_of : Option Answered → List ℕ
data_of None = []
data_of (Some a) = a.bytes

-- the status byte of every outcome but Done
abbrev pub no_status : ℕ
no_status = 0xFF

-- Done by End: the unit answered
pub record ByEnd (r : RequestData) (v : View) (q : Report) : Type 0 where
  pub one_end : v.tally.ends ≡ 1
  pub no_drop : v.tally.drops ≡ 0
  pub tries : q.tries ≡ v.tally.refusals + 1
  pub given : (a : Answered) × (v.answer ≡ Some a) × (q.status ≡ status_code a.status)
      × (q.residual ≡ length r.bytes - if_good a.status (moved r.direction a.bytes (need_of (command r)).bytes))
      × (q.bytes ≡ holding r.direction a.bytes (length a.bytes) r.bytes)

-- Done by refusal: the unit answered BUSY or QUEUE FULL at every try
pub record ByRefusal (retries : ℕ) (r : RequestData) (v : View) (q : Report) : Type 0 where
  pub no_look : v.tally.looks ≡ 0
  pub no_end : v.tally.ends ≡ 0
  pub no_drop : v.tally.drops ≡ 0
  pub no_sense : v.tally.senses ≡ 0
  pub tries : q.tries ≡ v.tally.refusals
  pub all_tries : q.tries ≡ retries + 1
  pub status : (s : Status) × (v.tally.refused ≡ Some s) × (q.status ≡ status_code s)
  pub residual : q.residual ≡ length r.bytes
  pub bytes : q.bytes ≡ r.bytes

-- one Drop at h, or nothing but refusals, and then h is 0
abbrev pub Lost : Tally → Type 0
Lost k = (k.drops ≡ 1) ⊎ ((k.drops ≡ 0) × (k.looks ≡ 0) × (k.senses ≡ 0) × (k.high ≡ 0))

-- Cut or Reset: the unit didn't answer
pub record ByLoss (r : RequestData) (v : View) (q : Report) : Type 0 where
  pub no_end : v.tally.ends ≡ 0
  pub lost : Lost v.tally
  pub tries : q.tries ≡ v.tally.refusals + 1
  pub status : q.status ≡ no_status
  pub residual : q.residual ≡ length r.bytes
  pub bytes : q.bytes ≡ holding r.direction (data_of v.answer) v.tally.high r.bytes

-- NoTarget: the unit is absent
pub record ByAbsence (s : UnitSetting) (r : RequestData) (v : View) (q : Report) : Type 0 where
  pub absent : s.absent ≡ true
  pub no_refusal : v.tally.refusals ≡ 0
  pub no_look : v.tally.looks ≡ 0
  pub no_end : v.tally.ends ≡ 0
  pub no_drop : v.tally.drops ≡ 0
  pub no_sense : v.tally.senses ≡ 0
  pub tries : q.tries ≡ 1
  pub status : q.status ≡ no_status
  pub residual : q.residual ≡ length r.bytes
  pub bytes : q.bytes ≡ r.bytes

-- the cases by the outcome; a unit that isn't rogue breaks nothing
abbrev pub By : Outcome → UnitSetting → RequestData → View → TicketHistory → Report → Type 0
By Done s r v h q = ByEnd r v q ⊎ ByRefusal s.retries r v q
By Cut s r v h q = ByLoss r v q × (h.marked ≡ true)
By Reset s r v h q = ByLoss r v q × (0 < h.clears)
By NoTarget s r v h q = ByAbsence s r v q
By Broken s r v h q = ⊥

-- all but the sentences on the sense: the report is one of this ticket and of the unit that its request names
pub record FitsLog (s : UnitSetting) (t : ℕ) (r : RequestData) (v : View) (h : TicketHistory) (q : Report) : Type 0 where
  pub ticket : q.ticket ≡ t
  pub of_unit : q.unit ≡ r.unit
  pub by : By q.outcome s r v h q
  pub few_tries : q.tries ≤ s.retries + 1
  pub all_within : h.outside ≡ 0
  pub all_caused : h.uncaused_clears ≡ 0

-- the ticket ended with CHECK CONDITION
abbrev pub EndedInCheck : View → Type 0
EndedInCheck v = (v.tally.ends ≡ 1) × ((a : Answered) × (v.answer ≡ Some a) × (a.status ≡ Check))

-- the driver is to ask for the sense
pub record AsksSense (s : UnitSetting) (v : View) (h : TicketHistory) : Type 0 where
  pub autosense : s.autosense ≡ true
  pub checked : EndedInCheck v
  pub unmarked : h.marked ≡ false

-- the sentences on the sense: at most one Sense, after the End; the report has its bytes, or none, and none without an End; there is one
-- only where the driver is to ask, and there it is one unless the bus was reset between the End and the Free
pub record FitsSense (s : UnitSetting) (v : View) (h : TicketHistory) (q : Report) : Type 0 where
  pub at_most_one : v.tally.senses ≤ 1
  pub none_early : v.tally.early ≡ 0
  pub given : q.sense ≡ unwrap_or v.sense []
  pub none_lost : v.tally.ends ≡ 0 → q.sense ≡ []
  pub only_asked : 0 < v.tally.senses → AsksSense s v h
  pub asked : AsksSense s v h → h.bus_reset ≡ false → v.tally.senses ≡ 1

-- the report of a ticket of a unit that isn't rogue fits the unit's log
abbrev pub Fits : UnitSetting → (t : ℕ) → RequestData → View → TicketHistory → Report → Type 0
Fits s t r v h q = s.rogue ≡ false → FitsLog s t r v h q

abbrev pub SenseFits : UnitSetting → View → TicketHistory → Report → Type 0
SenseFits s v h q = s.rogue ≡ false → FitsSense s v h q
