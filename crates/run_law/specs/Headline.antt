-- What is to hold of every run, in one statement (own). No contract claims it yet: of its parts only those on the numbers of tickets and
-- reports are laws.
use Rattle.std.specs.Prelude.{◌≡◌, ◌<◌, ◌≤◌, ℕ, true, false, List, length, Some}
use Rattle.std.specs.List.{list_any, All}
use Rattle.rig_types.specs.declared.rig.Unit.{Unit as RigUnit}
use Rattle.rig_types.specs.declared.step.Step.{Step}
use Rattle.rig_types.specs.declared.step.Step.TheVariants as step
use Rattle.unit_law.specs.Log.{run_log}
use Rattle.target_law.specs.Target.{LogicalUnit, unit_at}
use Rattle.bus_law.specs.Bus.{device_at}
use Rattle.desk_law.specs.Desk.{unit}
use Rattle.world_law.specs.World.{BenchSetting, World, IsBenchSetting}
use Rattle.world_law.specs.Opening.{opened}
use Rattle.world_law.specs.Lines.{drained}
use Rattle.world_law.specs.Runs.{Moment, IsRun, last}
use Rattle.world_law.specs.Laws.{is_report_of, NumbersTickets}
use Rattle.run_law.specs.Changes.{Change, changes}
use Rattle.run_law.specs.Late.{MovesInOne}
use Rattle.run_law.specs.Contained.{StaysIn, AreApart}
use Rattle.run_law.specs.Fitting.{request_of, plain_opened, ReportFits}
use Rattle.run_law.specs.Bound.{bound}

-- the disk of a unit that keeps the rules is that of the unit alone, run through its log
abbrev pub DiskFits : BenchSetting → World → ℕ → Type 0
DiskFits g w u =
    (x : LogicalUnit) → unit_at (device_at w.bus (unit w.desk u).target).target.units (unit w.desk u).lun ≡ Some x → x.rig.rogue ≡ false
    → x.plain.disk ≡ (run_log (request_of g w) (plain_opened w u) x.log).unit.disk

-- a step of the chip touches data only where they are its own
abbrev pub StaysInBy : World → World → Step → Type 0
StaysInBy old new (step.Chip word) = StaysIn old new
StaysInBy old new _ = Unit {0}

abbrev pub ChangeStaysIn : Change → Type 0
ChangeStaysIn c = StaysInBy c.before c.moment.after c.moment.entry.step

-- each ticket is reported at most once, and exactly once where the world is drained; each report of a unit that keeps the rules is what the
-- unit alone gives, run through its log, and so is its disk; no step of the chip touches data but those of its own ticket, and the buffers of
-- live tickets share nothing; after a mark a ticket's data move in one connection at most
pub record HoldsOf (g : BenchSetting) (ms : List Moment) : Type 0 where
  pub numbered : NumbersTickets (opened g) ms
  pub reported : drained g (last (opened g) ms) ≡ true → (t : ℕ) → t < length (last (opened g) ms).desk.tickets
      → list_any (is_report_of t) (last (opened g) ms).reports ≡ true
  pub fit : All (ReportFits g ms (last (opened g) ms)) (last (opened g) ms).reports
  pub disks : (u : ℕ) → u < length g.units → DiskFits g (last (opened g) ms) u
  pub contained : All ChangeStaysIn (changes (opened g) ms)
  pub apart : AreApart (last (opened g) ms).desk
  pub late : (t : ℕ) → MovesInOne g t (opened g) ms

abbrev pub EveryRunHolds : Type 0
EveryRunHolds = (g : BenchSetting) (ms : List Moment) → IsBenchSetting g → IsRun g (opened g) ms → HoldsOf g ms

-- where no unit breaks the rules, a run has at most so many moments, and fewer where the world isn't drained
pub record LiesWithinBound (g : BenchSetting) (ms : List Moment) : Type 0 where
  pub most : length ms ≤ bound g
  pub fewer : drained g (last (opened g) ms) ≡ false → length ms < bound g

abbrev pub KeepsRules : RigUnit → Type 0
KeepsRules u = u.rogue ≡ false

abbrev pub EveryRunIsBounded : Type 0
EveryRunIsBounded = (g : BenchSetting) (ms : List Moment) → IsBenchSetting g → All KeepsRules g.units → IsRun g (opened g) ms → LiesWithinBound g ms
