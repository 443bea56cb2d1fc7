-- Laws of the commands over a bench.
use Rattle.std.specs.Prelude.{◌≡◌, ◌≢◌, ℕ, List, Result, Err}
use Rattle.trace_text.specs.declared.types.TraceLine.{TraceLine}
use Rattle.trace_text.specs.Grammar.{IsTrace}
use Rattle.refusal_lines.specs.declared.refusal.Refusal.{Refusal}
use Rattle.refusal_lines.specs.declared.refusal.Refusal.TheVariants.{OutOfMemory}
use Rattle.world_law.specs.World.{BenchSetting}
use Rattle.bench_jobs.specs.Jobs.{Texts, HasTexts, StepRuns, LoadRuns, IsReplay, ReplayRuns}

-- of a command there is one answer, but for want of memory: one result, or one refusal
abbrev pub OneAnswer : {A : Type 0} → (Answers : Result A Refusal → Type 0) → Type 0
OneAnswer {A} Answers = (a b : Result A Refusal) → Answers a → Answers b → a ≢ Err OutOfMemory → b ≢ Err OutOfMemory → a ≡ b

pub record OneResult : Type 0 where
  pub step : (g : BenchSetting) (seed : ℕ) → OneAnswer (StepRuns g seed)
  pub load : (n seed : ℕ) → OneAnswer (LoadRuns n seed)
  pub replay : (g : BenchSetting) (lines : List TraceLine) → OneAnswer (ReplayRuns g lines)

-- the lines that are read of a run's trace are replayed, and the report text is the run's
abbrev pub StepReplays : Type 0
StepReplays = (g : BenchSetting) (seed : ℕ) (texts : Texts) (lines : List TraceLine) → HasTexts g seed texts → IsTrace g.version texts.trace lines → IsReplay g lines texts.report
