-- The texts of a run in which all callers of a bench made steps beside each other (own).
use Rattle.std.specs.Prelude.{◌≡◌, ◌≤◌, ℕ, true, false, List, length, map, Option, MatchOption}
use Rattle.trace_text.specs.Grammar.{IsTrace, line_of}
use Rattle.world_law.specs.World.{BenchSetting}
use Rattle.world_law.specs.Lines.{drained}
use Rattle.world_law.specs.Opening.{opened}
use Rattle.world_law.specs.Runs.{Moment, IsRun, last, entries}
use Rattle.report_text.specs.Text.{report_text}

-- a lawful list, within the limit of steps, that leaves the bench drained
pub record IsDrainedRun (g : BenchSetting) (moments : List Moment) : Type 0 where
  pub lawful : IsRun g (opened g) moments
  pub within : length moments ≤ g.step_limit
  pub drained : drained g (last (opened g) moments) ≡ true

-- a lawful list at the limit of steps that leaves the bench not drained
pub record IsFullRun (g : BenchSetting) (moments : List Moment) : Type 0 where
  pub lawful : IsRun g (opened g) moments
  pub full : length moments ≡ g.step_limit
  pub left : drained g (last (opened g) moments) ≡ false

-- what is stored and what is printed, if anything
pub record Texts : Type 0 where
  pub trace : List ℕ
  pub report : Option (List ℕ)

-- the trace and the report are of one list, which leaves the bench drained; or the trace is of a list at its limit, and there is no report
pub record HasTexts (g : BenchSetting) (texts : Texts) : Type 0 where
  pub moments : List Moment
  pub trace : IsTrace g.version texts.trace (map line_of (entries moments))
  pub end : MatchOption texts.report (IsFullRun g moments) (λ report. IsDrainedRun g moments × (report ≡ report_text (last (opened g) moments)))
