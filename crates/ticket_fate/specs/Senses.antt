-- The sense of a ticket, by where it is in its life. Source: own.
use Rattle.std.specs.Prelude.{◌≡◌, ℕ, Bool, true, false, List, [], length, Some, None, ◌⊎◌}
use Rattle.cdb_codec.specs.declared.commands.Cdb.TheVariants.{RequestSense}
use Rattle.rig_types.specs.declared.report.Outcome.{Outcome}
use Rattle.plain_lun.specs.Unit.{UnitState}
use Rattle.plain_lun.specs.Performing.{perform}
use Rattle.unit_law.specs.Log.{View}
use Rattle.unit_law.specs.Report.{EndedInCheck, SenseFits, filled, data_of}
use Rattle.target_law.specs.Session.{Task}
use Rattle.ticket_fate.specs.Tickets.{Plan, unit_of, setting, Life, Unbuilt, Checked, Asks, AskStarts, AskConnected, AskLost, Asked, AtRogue, Ended, Unlinked, Freed, Ticket, history_at, freed_report}

-- nothing of sense was logged, and none is given
pub record Unasked (given : List ℕ) (v : View) : Type 0 where
  pub senses : v.tally.senses ≡ 0
  pub early : v.tally.early ≡ 0
  pub sense : v.sense ≡ None
  pub none : given ≡ []

-- the driver is to ask
pub record ToAsk (g : Plan) (given : List ℕ) (marked : Bool) (v : View) : Type 0 where
  pub unasked : Unasked given v
  pub autosense : g.autosense ≡ true
  pub checked : EndedInCheck v
  pub unmarked : marked ≡ false

-- it has asked, and the sense area has what was given
pub record HasAsked (g : Plan) (area : List ℕ) (marked : Bool) (v : View) : Type 0 where
  pub senses : v.tally.senses ≡ 1
  pub early : v.tally.early ≡ 0
  pub sense : v.sense ≡ Some area
  pub autosense : g.autosense ≡ true
  pub checked : EndedInCheck v
  pub unmarked : marked ≡ false

-- the sense of the report that its Free would make fits; of the history the marks and the bus reset count
abbrev pub SenseOfReportFits : Plan → ℕ → Ticket → View → Outcome → Type 0
SenseOfReportFits g t k v o = SenseFits (setting g (unit_of g t)) v (history_at k.marked 0 k.bus_reset 0) (freed_report t (g.requests t) k o)

abbrev pub SenseFate : Plan → ℕ → Life → Ticket → View → Type 0
SenseFate g t Unbuilt k v = Unasked [] v
SenseFate g t Checked k v = ToAsk g k.sense k.marked v
SenseFate g t Asks k v = ToAsk g k.sense k.marked v × (length k.area ≡ 18)
SenseFate g t AskStarts k v = ToAsk g k.sense k.marked v × (length k.area ≡ 18)
SenseFate g t AskConnected k v = ToAsk g k.sense k.marked v
SenseFate g t AskLost k v = ToAsk g k.sense k.marked v × (k.bus_reset ≡ true)
SenseFate g t Asked k v = HasAsked g k.area k.marked v
SenseFate g t AtRogue k v = Unit {0}
SenseFate g t (Ended o) k v = SenseOfReportFits g t k v o
SenseFate g t (Unlinked o) k v = SenseOfReportFits g t k v o
SenseFate g t (Freed o) k v = SenseOfReportFits g t k v o
SenseFate g t _ k v = Unasked k.sense v

-- A sense task: it never disconnects, its data are what the unit gives now, and the sense area, which held these bytes at its begin, is filled
-- with them as far as they have moved.
pub record AsksTask (u : UnitState) (x : Task) (area start : List ℕ) : Type 0 where
  pub cdb : x.cdb ≡ RequestSense 18
  pub senses : x.senses ≡ true
  pub budget : x.budget ≡ 0
  pub kept : (x.kept ≡ None) ⊎ (x.kept ≡ Some (perform u (RequestSense 18) []).answer)
  pub size : length start ≡ 18
  pub holds : area ≡ filled (data_of x.kept) x.high start
