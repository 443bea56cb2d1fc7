-- The command `run`: its words, and what it makes of its files. Which lawful list it makes isn't determined, since its callers take
-- turns as the threads do.
use Rattle.std.specs.Prelude.{◌≡◌, ℕ, List, [], ◌∷◌, Option, Result, Ok, Err, codes}
use Rattle.sym_io.specs.ByName.{FilesByName}
use Rattle.rig_types.specs.declared.rig.Rig.{Rig}
use Rattle.rig_types.specs.declared.work.Work.{Work}
use Rattle.refusal_lines.specs.declared.exit.Exit.{Exit}
use Rattle.refusal_lines.specs.declared.refusal.Refusal.{Refusal}
use Rattle.refusal_lines.specs.Refusals.{exit_of}
use Rattle.run_files.specs.Loading.{HasRig, HasWork}
use Rattle.world_law.specs.World.{BenchSetting}
use Rattle.bench_state.specs.States.{setting_of}
use Rattle.run_jobs.specs.PoolRuns.{Texts, HasTexts}
use Rattle.sym_top.specs.CommandLine.{IsNumber}
use Rattle.sym_top.specs.Stages.{Then, ReadsRig, ReadsWork, WantsMemory}

-- a command `run` with its words
pub record RunWords : Type 0 where
  pub rig : List ℕ
  pub work : List ℕ
  pub seed : ℕ
  pub trace : List ℕ

-- these words, after the program's own name, are the command's
abbrev pub SpellsRun : List (List ℕ) → RunWords → Type 0
SpellsRun words a = (word : List ℕ) × (words ≡ codes "run" ∷ a.rig ∷ a.work ∷ word ∷ a.trace ∷ []) × IsNumber word a.seed

-- the texts of a lawful list of all callers, or want of memory
abbrev pub PoolYields : BenchSetting → Result Texts Refusal → Type 0
PoolYields g (Ok texts) = HasTexts g texts
PoolYields g (Err refusal) = WantsMemory refusal

-- The command makes these texts of the files, or is refused: the rig is loaded and read, then the work, and then comes the run.
abbrev pub RunYields : RunWords → Option FilesByName → Result Texts Refusal → Type 0
RunYields a files result = Then (ReadsRig files a.rig) (λ r. Then (ReadsWork files a.work) (λ w. PoolYields (setting_of r w))) result

abbrev pub RunMakes : RunWords → Option FilesByName → Texts → Type 0
RunMakes a files texts = RunYields a files (Ok texts)

-- a file of the command is refused, or its run, so that it ends with this status
abbrev pub RunEndsAs : RunWords → Option FilesByName → Exit → Type 0
RunEndsAs a files exit = (refusal : Refusal) × (exit_of refusal ≡ exit) × RunYields a files (Err refusal)

-- the rig and the work are within their limit and valid
abbrev pub IsValidRun : RunWords → Option FilesByName → Type 0
IsValidRun a files = (r : Rig) × (w : Work) × HasRig files a.rig r × HasWork files a.work w
