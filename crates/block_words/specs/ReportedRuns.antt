-- The reports of a run, beside a list of moves of tickets and targets. Source: own.
use Rattle.std.specs.Prelude.{◌≡◌, ℕ, Bool, true, false, List, [], ◌∷◌, ◌++◌, All, length, Some}
use Rattle.rig_types.specs.declared.report.Outcome.{Outcome}
use Rattle.rig_types.specs.declared.report.Report.{Report}
use Rattle.rig_types.specs.declared.step.Step.{Step}
use Rattle.rig_types.specs.declared.step.Step.TheVariants as step
use Rattle.target_law.specs.Target.{LogicalUnit, unit_at}
use Rattle.unit_law.specs.Report.{Fits, SenseFits}
use Rattle.desk_law.specs.Desk.{ticket}
use Rattle.ticket_fate.specs.Linked.{IsPlan}
use Rattle.ticket_fate.specs.Moves.{target_of}
use Rattle.ticket_fate.specs.Tickets.{Plan, unit_of, setting, Freed, Ticket, freed_report, view_for}
use Rattle.bus_events.specs.Targets.{targets}
use Rattle.run_law.specs.History.{history}
use Rattle.world_law.specs.Opening.{opened}
use Rattle.world_law.specs.Runs.{Moment, Steps, IsRun, last}
use Rattle.world_law.specs.World.{BenchSetting, IsBenchSetting, World}
use Rattle.word_owners.specs.Worlds.{HasBytes}
use Rattle.run_joined.specs.Joined.{IsJoined, StepJoins, is_by_words}
use Rattle.run_joined.specs.JoinedRuns.{RunJoins}
use Rattle.run_joined.specs.Plans.{IsPlanOf}
use Rattle.run_joined.specs.Reports.{ReportAgrees}
use Rattle.block_words.specs.EndedReports.{HasOutcome}

-- a report is the one that the moves make of its ticket, which is freed
pub record IsMade (p : Plan) (ks : ℕ → Ticket) (r : Report) : Type 0 where
  pub result : Outcome
  pub freed : (ks r.ticket).life ≡ Freed result
  pub is : r ≡ freed_report r.ticket (p.requests r.ticket) (ks r.ticket) result

-- Of each ticket with an outcome that isn't freed, its block, sense area and buffer say what its report is to say; and each report of the world is the
-- one that the moves make.
pub record AreReported (p : Plan) (w : World) (ks : ℕ → Ticket) : Type 0 where
  pub agree : (t : ℕ) (o : Outcome) → HasOutcome o (ks t).life → ReportAgrees w.memory (ticket w.desk t) (ks t) o
  pub made : All (IsMade p ks) w.reports

-- ---- a step

-- the steps that give a ticket its outcome
abbrev pub is_ending : Step → Bool
is_ending step.TakeDone = true
is_ending (step.Sweep t) = true
is_ending _ = false

-- they agree with each ticket to which a step gives its outcome
abbrev pub EndsAgree : (m : Moment) (ks ns : ℕ → Ticket) → Type 0
EndsAgree m ks ns = (t : ℕ) (o : Outcome) → ((q : Outcome) → HasOutcome q (ks t).life → ⊥) → HasOutcome o (ns t).life → ReportAgrees m.after.memory (ticket m.after.desk t) (ns t) o

-- so it goes on over a step that is joined; of TakeDone and Sweep it is asked that they agree with the ticket that the step ends
abbrev pub ReportsStay : Type 0
ReportsStay =
    (g : BenchSetting) (p : Plan) (ms : List Moment) (m : Moment) (ks : ℕ → Ticket) (spare : ℕ → ℕ) → IsBenchSetting g → HasBytes g → IsRun g (opened g) ms → Steps g (last (opened g) ms) m
    → IsPlanOf g (last (opened g) ms) p → IsJoined g p (last (opened g) ms) ks spare → (s : StepJoins g p (last (opened g) ms) m ks) → (is_ending m.entry.step ≡ true → EndsAgree m ks s.tickets)
    → AreReported p (last (opened g) ms) ks → AreReported p m.after s.tickets

-- ---- a run

-- a report fits the log of its ticket's unit in the world after the run, with the run's history
pub record FitsRun (g : BenchSetting) (p : Plan) (ms : List Moment) (r : Report) : Type 0 where
  pub its_unit : LogicalUnit
  pub there : unit_at (targets (last (opened g) ms).bus (target_of p r.ticket)).units (p.units (unit_of p r.ticket)).lun ≡ Some its_unit
  pub fits : Fits (setting p (unit_of p r.ticket)) r.ticket (p.requests r.ticket) (view_for p r.ticket its_unit.log) (history g (unit_of p r.ticket) r.ticket (opened g) ms) r
  pub sense_fits : SenseFits (setting p (unit_of p r.ticket)) (view_for p r.ticket its_unit.log) (history g (unit_of p r.ticket) r.ticket (opened g) ms) r

-- so do all reports that the bench has made
abbrev pub ReportedRunsFit : Type 0
ReportedRunsFit = (g : BenchSetting) (p : Plan) (ms : List Moment) (ks : ℕ → Ticket) → RunJoins g p ms ks → AreReported p (last (opened g) ms) ks → All (FitsRun g p ms) (last (opened g) ms).reports

-- some list of moves is joined to the run, and says of its reports and ended tickets what they say
abbrev pub IsReportedRun : BenchSetting → Plan → List Moment → Type 0
IsReportedRun g p ms = (ks : ℕ → Ticket) × RunJoins g p ms ks × AreReported p (last (opened g) ms) ks

-- Where a step of the chip, TakeDone or Sweep leaves each run so that was so, then every run is so.
abbrev pub WordsReport : BenchSetting → Plan → Type 0
WordsReport g p =
    (ms : List Moment) (m : Moment) → IsRun g (opened g) ms → Steps g (last (opened g) ms) m → is_by_words m.entry.step ≡ true → IsReportedRun g p ms → IsReportedRun g p (ms ++ m ∷ [])

abbrev pub RunsReport : Type 0
RunsReport =
    (g : BenchSetting) (p : Plan) (ms : List Moment) → IsBenchSetting g → HasBytes g → IsPlan p (length g.units) → IsPlanOf g (last (opened g) ms) p → IsRun g (opened g) ms → WordsReport g p → IsReportedRun g p ms
