-- The results of the commands over a bench: the texts of a serial run, the lines of one over generated work, and the report of a replay (own).
use Rattle.std.specs.Prelude.{◌≡◌, ◌≤◌, ℕ, true, false, List, ◌++◌, length, map, codes, Result, Ok, Err}
use Rattle.std.specs.Fmt.{decimal}
use Rattle.rig_types.specs.declared.rig.Rig.{Rig}
use Rattle.rig_types.specs.declared.work.Work.{Work}
use Rattle.trace_text.specs.declared.types.TraceLine.{TraceLine}
use Rattle.trace_text.specs.Grammar.{IsTrace, line_of}
use Rattle.refusal_lines.specs.declared.refusal.Refusal.{Refusal}
use Rattle.refusal_lines.specs.declared.refusal.Refusal.TheVariants as refusals
use Rattle.world_law.specs.World.{BenchSetting, World}
use Rattle.world_law.specs.Lines.{drained}
use Rattle.world_law.specs.Opening.{opened}
use Rattle.world_law.specs.Runs.{Moment, IsRun, last, entries}
use Rattle.run_law.specs.Serial.{IsSerial}
use Rattle.bench_state.specs.States.{setting_of}
use Rattle.report_text.specs.Text.{report_text, totals_text}
use Rattle.serial_run.specs.Generated.{IsGeneratedRig, IsGeneratedWork}
use Rattle.replay_run.specs.Replays.{ReplaysTo, ReplayRefuses}

-- ---- serial runs

-- the serial run of a seed, within the limit of steps, which ends with the bench drained
pub record IsDrainedRun (g : BenchSetting) (seed : ℕ) (moments : List Moment) : Type 0 where
  pub serial : IsSerial g seed (opened g) moments
  pub lawful : IsRun g (opened g) moments
  pub within : length moments ≤ g.step_limit
  pub drained : drained g (last (opened g) moments) ≡ true

-- the serial run of a seed, which ends at the limit of steps with the bench not drained
pub record IsFullRun (g : BenchSetting) (seed : ℕ) (moments : List Moment) : Type 0 where
  pub serial : IsSerial g seed (opened g) moments
  pub lawful : IsRun g (opened g) moments
  pub full : length moments ≡ g.step_limit
  pub left : drained g (last (opened g) moments) ≡ false

abbrev pub SerialFills : BenchSetting → (seed : ℕ) → Type 0
SerialFills g seed = (moments : List Moment) × IsFullRun g seed moments

-- a run is refused: for want of memory, or where it fills its list
abbrev pub RunRefuses : (Fills : Type 0) → Refusal → Type 0
RunRefuses Fills refusals.OutOfMemory = Unit {0}
RunRefuses Fills refusals.StepLimit = Fills
RunRefuses Fills _ = ⊥

-- it has a result, or is refused
abbrev pub RunsAs : {A : Type 0} → (Has : A → Type 0) → (Fills : Type 0) → Result A Refusal → Type 0
RunsAs Has Fills (Ok x) = Has x
RunsAs Has Fills (Err refusal) = RunRefuses Fills refusal

-- ---- step

-- what is stored and what is printed of a run: the trace of its list, and the report text of the world after it
pub record Texts : Type 0 where
  pub trace : List ℕ
  pub report : List ℕ

pub record HasTexts (g : BenchSetting) (seed : ℕ) (texts : Texts) : Type 0 where
  pub moments : List Moment
  pub run : IsDrainedRun g seed moments
  pub trace : IsTrace g.version texts.trace (map line_of (entries moments))
  pub report : texts.report ≡ report_text (last (opened g) moments)

abbrev pub StepRuns : BenchSetting → (seed : ℕ) → Result Texts Refusal → Type 0
StepRuns g seed result = RunsAs (HasTexts g seed) (SerialFills g seed) result

-- ---- load

-- the line of the number of commands, the seed and the number of steps
abbrev pub load_line : (n seed steps : ℕ) → List ℕ
load_line n seed steps = codes "load " ++ decimal n ++ codes " seed " ++ decimal seed ++ codes " steps " ++ decimal steps ++ codes "\n"

-- that line of a run, and the totals of the reports of the world after it
abbrev pub load_text : (n seed : ℕ) → List Moment → World → List ℕ
load_text n seed moments w = load_line n seed (length moments) ++ totals_text w.reports

-- the lines of the serial run of a seed over the generated rig and the n commands that the seed draws
pub record IsLoad (n seed : ℕ) (text : List ℕ) : Type 0 where
  pub rig : Rig
  pub work : Work
  pub is_rig : IsGeneratedRig rig
  pub is_work : IsGeneratedWork n seed work
  pub moments : List Moment
  pub run : IsDrainedRun (setting_of rig work) seed moments
  pub is_text : text ≡ load_text n seed moments (last (opened (setting_of rig work)) moments)

-- that run fills its list
pub record LoadFills (n seed : ℕ) : Type 0 where
  pub rig : Rig
  pub work : Work
  pub is_rig : IsGeneratedRig rig
  pub is_work : IsGeneratedWork n seed work
  pub fills : SerialFills (setting_of rig work) seed

abbrev pub LoadRuns : (n seed : ℕ) → Result (List ℕ) Refusal → Type 0
LoadRuns n seed result = RunsAs (IsLoad n seed) (LoadFills n seed) result

-- ---- replay

-- the report text of the world after the steps of a trace
pub record IsReplay (g : BenchSetting) (lines : List TraceLine) (text : List ℕ) : Type 0 where
  pub world : World
  pub replays : ReplaysTo g lines world
  pub is_text : text ≡ report_text world

abbrev pub ReplayRuns : BenchSetting → List TraceLine → Result (List ℕ) Refusal → Type 0
ReplayRuns g lines (Ok text) = IsReplay g lines text
ReplayRuns g lines (Err refusal) = ReplayRefuses g lines refusal
