-- A run beside a list of moves of tickets and targets, and what follows for its reports. Source: own.
use Rattle.std.specs.Prelude.{◌≡◌, ℕ, ◌<◌, false, true, List, [], ◌∷◌, ◌++◌, length, Some}
use Rattle.rig_types.specs.declared.report.Outcome.{Outcome}
use Rattle.unit_law.specs.Log.{run_log}
use Rattle.unit_law.specs.Report.{Fits, SenseFits}
use Rattle.target_law.specs.Target.{LogicalUnit, unit_at}
use Rattle.desk_law.specs.Desk.{ticket, lives}
use Rattle.world_law.specs.World.{BenchSetting, IsBenchSetting}
use Rattle.world_law.specs.Opening.{opened}
use Rattle.world_law.specs.Runs.{Moment, Steps, IsRun, last}
use Rattle.run_law.specs.History.{history}
use Rattle.ticket_fate.specs.Tickets.{Plan, unit_of, setting, opening, Ticket, freed_report, view_for}
use Rattle.ticket_fate.specs.Histories as moved
use Rattle.ticket_fate.specs.Histories.{Run}
use Rattle.ticket_fate.specs.Linked.{IsPlan}
use Rattle.ticket_fate.specs.Moves.{target_of}
use Rattle.ticket_fate.specs.Laws.{Opens}
use Rattle.bus_events.specs.Targets.{targets}
use Rattle.word_owners.specs.Worlds.{HasBytes}
use Rattle.run_joined.specs.Joined.{IsJoined, no_tickets, is_by_words}
use Rattle.run_joined.specs.Plans.{IsPlanOf}

-- a list of moves from the opening leads to the world after the run, and the run's history of each ticket is that of the moves
pub record RunJoins (g : BenchSetting) (p : Plan) (ms : List Moment) (ks : ℕ → Ticket) : Type 0 where
  pub spare : ℕ → ℕ
  pub opens : Opens p (length g.units) no_tickets (targets (opened g).bus)
  pub moves : Run p (length g.units) no_tickets (targets (opened g).bus) ks (targets (last (opened g) ms).bus)
  pub joined : IsJoined g p (last (opened g) ms) ks spare
  pub histories : (x : ℕ) → history g (unit_of p x) x (opened g) ms ≡ moved.history x moves

-- some list of moves does
abbrev pub IsJoinedRun : BenchSetting → Plan → List Moment → Type 0
IsJoinedRun g p ms = (ks : ℕ → Ticket) × RunJoins g p ms ks

-- Where a step of the chip, TakeDone or Sweep, which the words of memory and the chip's program decide, leaves each run joined that was so, then every
-- run is joined: the driver's other steps leave it so.
abbrev pub WordsJoin : BenchSetting → Plan → Type 0
WordsJoin g p =
    (ms : List Moment) (m : Moment) → IsRun g (opened g) ms → Steps g (last (opened g) ms) m → is_by_words m.entry.step ≡ true → IsJoinedRun g p ms → IsJoinedRun g p (ms ++ m ∷ [])

abbrev pub RunsJoin : Type 0
RunsJoin =
    (g : BenchSetting) (p : Plan) (ms : List Moment) → IsBenchSetting g → HasBytes g → IsPlan p (length g.units) → IsPlanOf g (last (opened g) ms) p → IsRun g (opened g) ms → WordsJoin g p
    → IsJoinedRun g p ms

-- the report of a freed ticket, as the moves make it, and its sense fit the log of its unit in the world after the run, with the run's history; the
-- desk has its outcome and its tries
pub record FreedFits (g : BenchSetting) (p : Plan) (ms : List Moment) (ks : ℕ → Ticket) (x : ℕ) : Type 0 where
  pub result : Outcome
  pub outcome_is : (ticket (last (opened g) ms).desk x).outcome ≡ Some result
  pub tries_are : (ticket (last (opened g) ms).desk x).tries ≡ (ks x).tries
  pub its_unit : LogicalUnit
  pub there : unit_at (targets (last (opened g) ms).bus (target_of p x)).units (p.units (unit_of p x)).lun ≡ Some its_unit
  pub fits : Fits (setting p (unit_of p x)) x (p.requests x) (view_for p x its_unit.log) (history g (unit_of p x) x (opened g) ms) (freed_report x (p.requests x) (ks x) result)
  pub sense_fits : SenseFits (setting p (unit_of p x)) (view_for p x its_unit.log) (history g (unit_of p x) x (opened g) ms) (freed_report x (p.requests x) (ks x) result)

-- a unit stands in the world after the run, and is what its log makes of its opening
pub record RunsItsLog (g : BenchSetting) (p : Plan) (ms : List Moment) (n : ℕ) : Type 0 where
  pub its_unit : LogicalUnit
  pub there : unit_at (targets (last (opened g) ms).bus (p.units n).target).units (p.units n).lun ≡ Some its_unit
  pub rig : its_unit.rig ≡ p.units n
  pub plain : its_unit.plain ≡ (run_log p.requests (opening p n) its_unit.log).unit

-- so it is for every ticket that a joined run has freed, and for every unit
pub record JoinedRunsFit : Type 0 where
  pub freed : (g : BenchSetting) (p : Plan) (ms : List Moment) (ks : ℕ → Ticket) → RunJoins g p ms ks → (x : ℕ) → x < length (last (opened g) ms).desk.tickets
      → lives (ticket (last (opened g) ms).desk x) ≡ false → FreedFits g p ms ks x
  pub units : (g : BenchSetting) (p : Plan) (ms : List Moment) (ks : ℕ → Ticket) → RunJoins g p ms ks → (n : ℕ) → n < length g.units → RunsItsLog g p ms n
