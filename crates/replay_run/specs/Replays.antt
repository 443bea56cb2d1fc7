-- A trace that is made again on a bench: which of its lines are made, and why the first that isn't is refused (own).
use Rattle.std.specs.Prelude.{◌≡◌, ◌≢◌, ◌<◌, ◌≤◌, ◌+◌, ℕ, true, false, List, length, map, take, slice_get, Some, Result, Ok, Err}
use Rattle.rig_types.specs.declared.step.Step.{Step}
use Rattle.rig_types.specs.declared.step.Step.TheVariants as step
use Rattle.trace_text.specs.declared.types.TraceLine.{TraceLine}
use Rattle.trace_text.specs.Grammar.{line_of}
use Rattle.refusal_lines.specs.declared.fault.Fault.{Fault}
use Rattle.refusal_lines.specs.declared.fault.Fault.TheVariants as fault
use Rattle.refusal_lines.specs.declared.refusal.Refusal.{Refusal}
use Rattle.refusal_lines.specs.declared.refusal.Refusal.TheVariants as refusals
use Rattle.world_law.specs.World.{BenchSetting, World, commands_of}
use Rattle.world_law.specs.Opening.{opened}
use Rattle.world_law.specs.Lines.{drained}
use Rattle.world_law.specs.Runs.{Moment, Steps, IsRun, last, entries}
use Rattle.world_law.specs.Answers.{WithinLimit}

-- the work has the line or the act that a step names; the other steps name neither
abbrev pub Knows : BenchSetting → Step → Type 0
Knows g (step.Build l) = l.number < length (commands_of g l.submitter)
Knows g (step.Act k) = k < length g.acts
Knows g _ = Unit {0}

-- a run from the opening on whose entries have these lines
pub record Makes (g : BenchSetting) (lines : List TraceLine) (moments : List Moment) : Type 0 where
  pub run : IsRun g (opened g) moments
  pub are : map line_of (entries moments) ≡ lines

-- so many of the lines, from the first on, are made, in no more steps than the rig allows
pub record MakesFirst (g : BenchSetting) (lines : List TraceLine) (count : ℕ) (moments : List Moment) : Type 0 where
  pub first : Makes g (take count lines) moments
  pub few : count ≤ length lines
  pub within : length moments ≤ g.step_limit

-- the line of this number, from 1, is reached: those before it are made, and the limit leaves place for a step or the bench is drained
pub record Reaches (g : BenchSetting) (lines : List TraceLine) (number : ℕ) (moments : List Moment) (line : TraceLine) : Type 0 where
  pub count : ℕ
  pub number_is : number ≡ count + 1
  pub before : MakesFirst g lines count moments
  pub free : WithinLimit g (length moments) (last (opened g) moments)
  pub there : slice_get lines count ≡ Some line

-- ---- why a trace is refused

-- the line of this number is reached, and names no line and no act of the work
pub record IsUnknown (g : BenchSetting) (lines : List TraceLine) (number : ℕ) : Type 0 where
  pub moments : List Moment
  pub line : TraceLine
  pub reached : Reaches g lines number moments line
  pub unknown : Knows g line.step → ⊥

-- the line of this number is reached and known, and no step has it that a caller may make then and that is recorded
pub record IsRefusedStep (g : BenchSetting) (lines : List TraceLine) (number : ℕ) : Type 0 where
  pub moments : List Moment
  pub line : TraceLine
  pub reached : Reaches g lines number moments line
  pub known : Knows g line.step
  pub none : (m : Moment) → Steps g (last (opened g) moments) m → line_of m.entry ≢ line

-- the first lines, or all, are made, the list has as many steps as the rig allows, and the bench isn't drained
pub record ReachesLimit (g : BenchSetting) (lines : List TraceLine) : Type 0 where
  pub count : ℕ
  pub moments : List Moment
  pub made : MakesFirst g lines count moments
  pub full : length moments ≡ g.step_limit
  pub left : drained g (last (opened g) moments) ≡ false

-- all lines are made, the list has fewer steps than the rig allows, and the bench isn't drained
pub record StaysUndrained (g : BenchSetting) (lines : List TraceLine) : Type 0 where
  pub moments : List Moment
  pub made : Makes g lines moments
  pub free : length moments < g.step_limit
  pub left : drained g (last (opened g) moments) ≡ false

abbrev pub ReplayFaults : BenchSetting → List TraceLine → Fault → Type 0
ReplayFaults g lines (fault.UnknownStep number) = IsUnknown g lines number
ReplayFaults g lines (fault.TraceStep number) = IsRefusedStep g lines number
ReplayFaults g lines fault.NotDrained = StaysUndrained g lines
ReplayFaults g lines _ = ⊥

-- want of memory may come at each line, and says nothing of the trace
abbrev pub ReplayRefuses : BenchSetting → List TraceLine → Refusal → Type 0
ReplayRefuses g lines (refusals.Bad f) = ReplayFaults g lines f
ReplayRefuses g lines refusals.StepLimit = ReachesLimit g lines
ReplayRefuses g lines refusals.OutOfMemory = Unit {0}
ReplayRefuses g lines _ = ⊥

-- ---- a trace that is replayed

-- all lines are made, in no more steps than the rig allows, and lead to this world, which is drained
pub record ReplaysTo (g : BenchSetting) (lines : List TraceLine) (w : World) : Type 0 where
  pub moments : List Moment
  pub made : Makes g lines moments
  pub world : last (opened g) moments ≡ w
  pub within : length moments ≤ g.step_limit
  pub drains : drained g w ≡ true

-- what is answered to a trace: the world that it leads to, or why it is refused
abbrev pub ReplayAnswers : BenchSetting → List TraceLine → Result World Refusal → Type 0
ReplayAnswers g lines (Ok w) = ReplaysTo g lines w
ReplayAnswers g lines (Err r) = ReplayRefuses g lines r
