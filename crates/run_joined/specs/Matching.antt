-- What a run of the bench and a list of moves of tickets and targets say of one ticket. Source: own.
use Rattle.std.specs.Prelude.{◌≡◌, ℕ, false, List, [], ◌∷◌, ◌++◌, Some}
use Rattle.rig_types.specs.declared.report.Outcome.{Outcome}
use Rattle.target_law.specs.Target.{LogicalUnit, Target, unit_at}
use Rattle.unit_law.specs.Report.{Fits, SenseFits}
use Rattle.desk_law.specs.Desk.{unit}
use Rattle.ticket_fate.specs.Tickets.{Plan, unit_of, setting, Freed, is_live, Ticket, history_at, freed_report, view_for}
use Rattle.ticket_fate.specs.Histories as moved
use Rattle.ticket_fate.specs.Histories.{progress_of, marks_in, is_bus, is_device, resets_by, Run, none, more}
use Rattle.ticket_fate.specs.Moves.{target_of, Moves}
use Rattle.ticket_fate.specs.Laws.{Opens}
use Rattle.ticket_fate.specs.Linked.{IsPlan}
use Rattle.world_law.specs.World.{BenchSetting, World}
use Rattle.world_law.specs.Runs.{Moment, last}
use Rattle.run_law.specs.Changes.{Change, marks, resets_bus, resets_device}
use Rattle.run_law.specs.History.{tally_in, is_live as lives_in, is_under_way, history}

-- a move says nothing of ticket x: what its unit's log says of it stays, and it is neither marked nor is the bus reset
pub record IsSilent (p : Plan) (count : ℕ) (ks : ℕ → Ticket) (ts : ℕ → Target) (ns : ℕ → Ticket) (us : ℕ → Target) (x : ℕ) (m : Moves p count ks ts ns us) : Type 0 where
  pub tally : moved.tally_in p us x ≡ moved.tally_in p ts x
  pub unmarked : marks_in x m ≡ false
  pub no_bus_reset : resets_by is_bus (target_of p x) m ≡ false

-- nor does a change
pub record SaysNothing (g : BenchSetting) (u x : ℕ) (c : Change) : Type 0 where
  pub tally : tally_in c.moment.after u x ≡ tally_in c.before u x
  pub unmarked : marks g x c ≡ false
  pub no_bus_reset : resets_bus g c ≡ false

-- a change says of ticket x, of unit u, what a move says: whether it lives and is under way, what its unit's log says of it before and after,
-- whether it is marked, and whether the bus or its target is reset
pub record SaysAs (g : BenchSetting) (u x : ℕ) (c : Change) (p : Plan) (count : ℕ) (ks : ℕ → Ticket) (ts : ℕ → Target) (ns : ℕ → Ticket) (us : ℕ → Target) (m : Moves p count ks ts ns us) : Type 0 where
  pub live : lives_in c.before x ≡ is_live (ks x).life
  pub under_way : is_under_way c.before x ≡ moved.is_under_way (progress_of (ks x).life)
  pub before : tally_in c.before u x ≡ moved.tally_in p ts x
  pub after : tally_in c.moment.after u x ≡ moved.tally_in p us x
  pub marked : marks g x c ≡ marks_in x m
  pub bus : resets_bus g c ≡ resets_by is_bus (target_of p x) m
  pub device : resets_device g (unit c.before.desk u).target c ≡ resets_by is_device (target_of p x) m

-- a run from world w on, with the moves that it makes: each change says what a move says, or nothing, and so does each move
pub data MatchesMoves (g : BenchSetting) (u x : ℕ) (w : World) (p : Plan) (count : ℕ) (ks : ℕ → Ticket) (ts : ℕ → Target) : List Moment → (ns : ℕ → Ticket) → (us : ℕ → Target) → Run p count ks ts ns us → Type 0 where
  opened : MatchesMoves g u x w p count ks ts [] ks ts none
  moves : {ms : List Moment} {ns : ℕ → Ticket} {us : ℕ → Target} {os : ℕ → Ticket} {vs : ℕ → Target} {r : Run p count ks ts ns us} → MatchesMoves g u x w p count ks ts ms ns us r → (m : Moves p count ns us os vs)
      → IsSilent p count ns us os vs x m → MatchesMoves g u x w p count ks ts ms os vs (more r m)
  passes : {ms : List Moment} {ns : ℕ → Ticket} {us : ℕ → Target} {r : Run p count ks ts ns us} → MatchesMoves g u x w p count ks ts ms ns us r → (a : Moment)
      → SaysNothing g u x (record { before = last w ms; moment = a }) → MatchesMoves g u x w p count ks ts (ms ++ a ∷ []) ns us r
  says : {ms : List Moment} {ns : ℕ → Ticket} {us : ℕ → Target} {os : ℕ → Ticket} {vs : ℕ → Target} {r : Run p count ks ts ns us} → MatchesMoves g u x w p count ks ts ms ns us r → (a : Moment) (m : Moves p count ns us os vs)
      → SaysAs g u x (record { before = last w ms; moment = a }) p count ns us os vs m → MatchesMoves g u x w p count ks ts (ms ++ a ∷ []) os vs (more r m)

-- then the run's history is that of the moves
abbrev pub HistoriesTie : Type 0
HistoriesTie = (g : BenchSetting) (u x : ℕ) (w : World) (p : Plan) (count : ℕ) (ks : ℕ → Ticket) (ts : ℕ → Target) (ms : List Moment) (ns : ℕ → Ticket) (us : ℕ → Target) (r : Run p count ks ts ns us)
    → MatchesMoves g u x w p count ks ts ms ns us r → history g u x w ms ≡ moved.history x r

-- from the opening on, with a ticket that is freed
pub record IsFreedIn (g : BenchSetting) (x : ℕ) (w : World) (p : Plan) (count : ℕ) (ms : List Moment) (ns : ℕ → Ticket) (us : ℕ → Target) (o : Outcome) : Type 0 where
  pub plan : IsPlan p count
  pub ks : ℕ → Ticket
  pub ts : ℕ → Target
  pub opens : Opens p count ks ts
  pub run : Run p count ks ts ns us
  pub matches : MatchesMoves g (unit_of p x) x w p count ks ts ms ns us run
  pub freed : (ns x).life ≡ Freed o

-- its history is that of its Free
abbrev pub FreedHistories : Type 0
FreedHistories = (g : BenchSetting) (x : ℕ) (w : World) (p : Plan) (count : ℕ) (ms : List Moment) (ns : ℕ → Ticket) (us : ℕ → Target) (o : Outcome) → IsFreedIn g x w p count ms ns us o
    → history g (unit_of p x) x w ms ≡ history_at (ns x).marked (ns x).clears (ns x).bus_reset 0

-- its report and the sense of it fit its unit's log with the run's history
pub record FitsIn (g : BenchSetting) (x : ℕ) (w : World) (p : Plan) (ms : List Moment) (ns : ℕ → Ticket) (us : ℕ → Target) (o : Outcome) : Type 0 where
  pub log_of_unit : LogicalUnit
  pub there : unit_at (us (target_of p x)).units (p.units (unit_of p x)).lun ≡ Some log_of_unit
  pub fits : Fits (setting p (unit_of p x)) x (p.requests x) (view_for p x log_of_unit.log) (history g (unit_of p x) x w ms) (freed_report x (p.requests x) (ns x) o)
  pub sense_fits : SenseFits (setting p (unit_of p x)) (view_for p x log_of_unit.log) (history g (unit_of p x) x w ms) (freed_report x (p.requests x) (ns x) o)

abbrev pub FreedReportsFit : Type 0
FreedReportsFit = (g : BenchSetting) (x : ℕ) (w : World) (p : Plan) (count : ℕ) (ms : List Moment) (ns : ℕ → Ticket) (us : ℕ → Target) (o : Outcome) → IsFreedIn g x w p count ms ns us o → FitsIn g x w p ms ns us o
