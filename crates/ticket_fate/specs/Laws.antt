-- Laws of tickets over every list of moves from the opening.
use Rattle.std.specs.Prelude.{◌≡◌, ℕ, ◌<◌, false, List, Some, ◌⊎◌}
use Rattle.rig_types.specs.declared.report.Outcome.{Outcome}
use Rattle.rig_types.specs.declared.report.Outcome.TheVariants.{Cut, Reset}
use Rattle.unit_law.specs.declared.entry.LogEntry.{LogEntry}
use Rattle.unit_law.specs.Log.{run_log, tally}
use Rattle.unit_law.specs.Report.{TicketHistory, Fits, SenseFits}
use Rattle.target_law.specs.Target.{LogicalUnit, BusFree, Target, unit_at, unit_opened}
use Rattle.logs_have_room.specs.Room.{IsFew}
use Rattle.ticket_fate.specs.Tickets.{Plan, unit_of, setting, opening, Unbuilt, Freed, Ticket, freed_report, history_at, view_for}
use Rattle.ticket_fate.specs.Linked.{IsPlan}
use Rattle.ticket_fate.specs.Moves.{target_of}
use Rattle.ticket_fate.specs.Histories.{Run, history}

-- the opening: no ticket is built, no target is connected, and each unit is as the rig opens it
pub record Opens (g : Plan) (count : ℕ) (ks : ℕ → Ticket) (ts : ℕ → Target) : Type 0 where
  pub unbuilt : (x : ℕ) → (ks x).life ≡ Unbuilt
  pub unqueued : (x : ℕ) → (ks x).since ≡ 0
  pub unlogged : (x : ℕ) → (ks x).before ≡ 0
  pub unmarked : (x : ℕ) → (ks x).marked ≡ false
  pub unreset : (x : ℕ) → (ks x).bus_reset ≡ false
  pub free : (i : ℕ) → (ts i).link ≡ BusFree
  pub units : (n : ℕ) → n < count → unit_at (ts (g.units n).target).units (g.units n).lun ≡ Some (unit_opened (g.units n))

-- tickets and targets that a list of moves reaches from an opening
pub record Reached (g : Plan) (count : ℕ) (ns : ℕ → Ticket) (us : ℕ → Target) : Type 0 where
  pub plan : IsPlan g count
  pub from : (ks : ℕ → Ticket) × (ts : ℕ → Target) × Opens g count ks ts × Run g count ks ts ns us

-- the report of a freed ticket and its sense fit a log, with this history
pub record ReportFitsLog (g : Plan) (x : ℕ) (k : Ticket) (log : List LogEntry) (h : TicketHistory) (o : Outcome) : Type 0 where
  pub fits : Fits (setting g (unit_of g x)) x (g.requests x) (view_for g x log) h (freed_report x (g.requests x) k o)
  pub sense_fits : SenseFits (setting g (unit_of g x)) (view_for g x log) h (freed_report x (g.requests x) k o)

-- the report of each freed ticket fits the log of its unit, with the history that the moves made
abbrev pub ReportsFit : Type 0
ReportsFit = (g : Plan) (count : ℕ) (ns : ℕ → Ticket) (us : ℕ → Target) → (r : Reached g count ns us) → (x : ℕ) (o : Outcome) → (ns x).life ≡ Freed o
    → (u : LogicalUnit) × (unit_at (us (target_of g x)).units (g.units (unit_of g x)).lun ≡ Some u) × ReportFitsLog g x (ns x) u.log (history x r.from.3) o

-- the history of a freed ticket is as it was at its Free
abbrev pub HistoriesEnd : Type 0
HistoriesEnd = (g : Plan) (count : ℕ) (ns : ℕ → Ticket) (us : ℕ → Target) → (r : Reached g count ns us) → (x : ℕ) (o : Outcome) → (ns x).life ≡ Freed o
    → history x r.from.3 ≡ history_at (ns x).marked (ns x).clears (ns x).bus_reset 0

-- each unit is there, and is what its log makes of its opening
abbrev pub UnitsRunTheirLogs : Type 0
UnitsRunTheirLogs = (g : Plan) (count : ℕ) (ns : ℕ → Ticket) (us : ℕ → Target) → Reached g count ns us → (n : ℕ) → n < count
    → (u : LogicalUnit) × (unit_at (us (g.units n).target).units (g.units n).lun ≡ Some u) × (u.rig ≡ g.units n) × (u.plain ≡ (run_log g.requests (opening g n) u.log).unit)

-- how often the unit of a ticket may refuse it
abbrev pub limit_of : Plan → ℕ → ℕ
limit_of g x = (g.units (unit_of g x)).refusals

-- no ticket has more entries in its unit's log than it may
abbrev pub EntriesAreFew : Type 0
EntriesAreFew = (g : Plan) (count : ℕ) (ns : ℕ → Ticket) (us : ℕ → Target) → Reached g count ns us → (x : ℕ)
    → (u : LogicalUnit) × (unit_at (us (target_of g x)).units (g.units (unit_of g x)).lun ≡ Some u) × IsFew (limit_of g x) (tally x u.log)

-- a ticket of a unit that keeps the rules, whose log has End of it, is neither Cut nor Reset when it is freed
abbrev pub NoneLostAfterEnd : Type 0
NoneLostAfterEnd = (g : Plan) (count : ℕ) (ns : ℕ → Ticket) (us : ℕ → Target) → Reached g count ns us → (x : ℕ) (o : Outcome) → (ns x).life ≡ Freed o → (g.units (unit_of g x)).rogue ≡ false
    → (u : LogicalUnit) → unit_at (us (target_of g x)).units (g.units (unit_of g x)).lun ≡ Some u → 0 < (view_for g x u.log).tally.ends → (o ≡ Cut) ⊎ (o ≡ Reset) → ⊥
