-- What `run` was given and what it left, and when each answer comes.
use Rattle.std.specs.Prelude.{◌≡◌, ◌⊎◌, ℕ, List, Option, Some, None, MatchOption, IsSome, IsSomeAnd, Result, Ok, Err, map}
use Rattle.sym_io.specs.ByName.{FilesByName}
use Rattle.refusal_lines.specs.Refusals.{exit_of, Says}
use Rattle.refusal_lines.specs.declared.exit.Exit.{Exit}
use Rattle.refusal_lines.specs.declared.exit.Exit.TheVariants as exits
use Rattle.refusal_lines.specs.declared.refusal.Refusal.{Refusal}
use Rattle.refusal_lines.specs.declared.refusal.Refusal.TheVariants as refusals
use Rattle.rig_types.specs.declared.rig.Rig.{Rig}
use Rattle.rig_types.specs.declared.work.Work.{Work}
use Rattle.run_files.specs.Shelves.{ExceedsLimit, file_limit}
use Rattle.run_files.specs.Loading.{HasRig, HasWork}
use Rattle.trace_text.specs.Grammar.{IsTrace, line_of}
use Rattle.world_law.specs.World.{BenchSetting}
use Rattle.world_law.specs.Opening.{opened}
use Rattle.world_law.specs.Runs.{Moment, last, entries}
use Rattle.bench_state.specs.States.{setting_of}
use Rattle.report_text.specs.Text.{report_text}
use Rattle.run_jobs.specs.PoolRuns.{IsDrainedRun, IsFullRun, Texts}
use Rattle.sym_top.specs.Calls.{Ends, IsSilent, Leaves, Done, FailsStore, Unloaded, Unstored, Unprinted, Finishes, files_with}
use Rattle.sym_top.specs.Causes.{IsOnly, NoRise}
use Rattle.sym_top.specs.Jobs.{Job, Output}
use Rattle.sym_top.specs.Running.{RunWords, RunYields, RunMakes, RunEndsAs}

-- the trace as the file to be stored, and the job of a run whose bench was drained: the trace is stored, and the report printed
abbrev pub trace_file : (name : List ℕ) → Texts → Output
trace_file name texts = record { name = name; bytes = texts.trace }

abbrev pub drained_job : (name : List ℕ) → Texts → (report : List ℕ) → Job
drained_job name texts report = record { text = report; output = Some (trace_file name texts) }

-- the file is stored, nothing is printed, and nothing failed
pub record StoresAlone (file : Output) (e : Ends) : Type 0 where
  pub loads : e.shelf'.loads ≡ e.shelf.loads
  pub stores : e.shelf'.stores ≡ e.shelf.stores
  pub stored : e.shelf'.files ≡ files_with (Some file) e.shelf.files
  pub out : IsSilent e.out e.out'

-- the store failed, and nothing is printed
pub record FailsAlone (e : Ends) : Type 0 where
  pub failed : FailsStore e.shelf e.shelf'
  pub out : IsSilent e.out e.out'

-- a run that filled its list ends: its trace is stored, and then the limit is told
abbrev pub FinishesFull : Output → Ends → Result (Unit {0}) Refusal → Type 0
FinishesFull file e (Ok done) = ⊥
FinishesFull file e (Err refusals.Usage) = ⊥
FinishesFull file e (Err refusals.Read) = ⊥
FinishesFull file e (Err refusals.Write) = FailsAlone e
FinishesFull file e (Err refusals.OutOfMemory) = Leaves e
FinishesFull file e (Err (refusals.Bad fault)) = ⊥
FinishesFull file e (Err refusals.StepLimit) = StoresAlone file e
FinishesFull file e (Err refusals.TooLong) = ⊥

-- a run that was made is finished, or refused
abbrev pub FinishesRun : (name : List ℕ) → Texts → Ends → Result (Unit {0}) Refusal → Type 0
FinishesRun name texts e result = MatchOption texts.report (FinishesFull (trace_file name texts) e result) (λ report. Finishes (drained_job name texts report) e result)

-- a store or a write failed
abbrev pub FailsWrite : (name : List ℕ) → Texts → Ends → Type 0
FailsWrite name texts e =
    MatchOption texts.report (FailsAlone e) (λ report. Unstored (drained_job name texts report) e ⊎ Unprinted (drained_job name texts report) e)

-- When a refusal of `run` comes, and what it leaves. Only with the limit of steps the trace is stored.
abbrev pub RunRefuses : RunWords → Ends → Refusal → Type 0
RunRefuses a e refusals.Usage = ⊥
RunRefuses a e refusals.Read = Unloaded e
RunRefuses a e refusals.Write = (texts : Texts) × RunMakes a e.shelf.files texts × FailsWrite a.trace texts e
RunRefuses a e refusals.OutOfMemory = RunYields a e.shelf.files (Err refusals.OutOfMemory) × Leaves e
RunRefuses a e (refusals.Bad fault) = RunYields a e.shelf.files (Err (refusals.Bad fault)) × Leaves e
RunRefuses a e refusals.StepLimit = (texts : Texts) × RunMakes a e.shelf.files texts × (texts.report ≡ None) × StoresAlone (trace_file a.trace texts) e
RunRefuses a e refusals.TooLong = RunYields a e.shelf.files (Err refusals.TooLong) × Leaves e

-- `run` has run, or is refused
abbrev pub RunRuns : RunWords → Ends → Result (Unit {0}) Refusal → Type 0
RunRuns a e (Ok done) = (texts : Texts) × RunMakes a e.shelf.files texts × IsSomeAnd texts.report (λ report. Done (drained_job a.trace texts report) e)
RunRuns a e (Err refusal) = RunRefuses a e refusal

-- the status, and the line on standard error, after it
abbrev pub RunEnded : RunWords → Ends → Option (List ℕ) → ℕ → Option (List ℕ) → ℕ → Exit → Type 0
RunEnded a e written faults written' faults' exit =
    (RunRuns a e (Ok tt) × (exit ≡ exits.Ok) × (written' ≡ written) × (faults' ≡ faults))
    ⊎ ((refusal : Refusal) × RunRuns a e (Err refusal) × (exit ≡ exit_of refusal) × Says refusal written faults written' faults')

-- ---- the list of a run

-- a rig and a work of the files, and a text that is the trace of this list over them
pub record TracesList (a : RunWords) (files : Option FilesByName) (trace : List ℕ) (g : BenchSetting) (moments : List Moment) : Type 0 where
  pub rig : Rig
  pub work : Work
  pub is_rig : HasRig files a.rig rig
  pub is_work : HasWork files a.work work
  pub setting : g ≡ setting_of rig work
  pub is_trace : IsTrace g.version trace (map line_of (entries moments))

-- one lawful list leaves the bench drained: its trace is stored, and its report text is printed
pub record RanDrained (a : RunWords) (e : Ends) : Type 0 where
  pub setting : BenchSetting
  pub moments : List Moment
  pub trace : List ℕ
  pub traced : TracesList a e.shelf.files trace setting moments
  pub run : IsDrainedRun setting moments
  pub done : Done (record { text = report_text (last (opened setting) moments); output = Some (record { name = a.trace; bytes = trace }) }) e

-- one lawful list at the limit of steps leaves the bench not drained: its trace is stored, and nothing is printed
pub record RanFull (a : RunWords) (e : Ends) : Type 0 where
  pub setting : BenchSetting
  pub moments : List Moment
  pub trace : List ℕ
  pub traced : TracesList a e.shelf.files trace setting moments
  pub run : IsFullRun setting moments
  pub stored : StoresAlone (record { name = a.trace; bytes = trace }) e

-- ---- exactness

-- The status comes only where a file of the command is refused so. Where it is, the shelf tells the files and no load failed, it
-- comes, or want of memory.
pub record RunEndsExactly (a : RunWords) (files : Option FilesByName) (loads loads' : ℕ) (exit wanted : Exit) : Type 0 where
  pub only : exit ≡ wanted → RunEndsAs a files wanted
  pub always : RunEndsAs a files wanted → IsSome files → NoRise loads loads' → IsOnly exit wanted

-- where the rig is too long, the shelf tells it and no load failed, the status is `TooLong`
abbrev pub RigIsLong : RunWords → Option FilesByName → (loads loads' : ℕ) → Exit → Type 0
RigIsLong a files loads loads' exit = ExceedsLimit file_limit files a.rig → IsSome files → NoRise loads loads' → exit ≡ exits.TooLong
