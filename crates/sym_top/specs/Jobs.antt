-- What a command makes of its files, before anything is stored or printed, and why it is refused.
use Rattle.std.specs.Prelude.{◌≡◌, ◌⊎◌, ℕ, List, length, Option, Some, None, IsSome, IsSomeAnd, Result, Ok, Err}
use Rattle.sym_io.specs.ByName.{FilesByName}
use Rattle.rig_types.specs.declared.rig.Rig.{Rig}
use Rattle.rig_types.specs.declared.work.Work.{Work}
use Rattle.trace_text.specs.declared.types.TraceLine.{TraceLine}
use Rattle.scripts_asm.specs.declared.assembling.Image.{Image}
use Rattle.scripts_asm.specs.declared.assembling.AsmFault.{AsmFault}
use Rattle.scripts_asm.specs.Image.{Assembles, line_of, number_of}
use Rattle.source_files.specs.Sources.{source_text}
use Rattle.source_files.specs.Images.{image_bytes, words_line}
use Rattle.source_files.specs.FileListing.{IsFileListing}
use Rattle.refusal_lines.specs.declared.exit.Exit.{Exit}
use Rattle.refusal_lines.specs.declared.fault.Fault.{Fault}
use Rattle.refusal_lines.specs.declared.fault.Fault.TheVariants as faults
use Rattle.refusal_lines.specs.declared.refusal.Refusal.{Refusal}
use Rattle.refusal_lines.specs.declared.refusal.Refusal.TheVariants as refusals
use Rattle.refusal_lines.specs.Refusals.{exit_of}
use Rattle.run_files.specs.Shelves.{IsFile, ExceedsLimit, file_limit}
use Rattle.run_files.specs.Loading.{HasRig, HasWork, HasTrace}
use Rattle.world_law.specs.World.{BenchSetting, World}
use Rattle.bench_state.specs.States.{setting_of}
use Rattle.replay_run.specs.Replays.{ReplaysTo, ReachesLimit, ReplayRefuses}
use Rattle.bench_jobs.specs.Jobs.{Texts, HasTexts, SerialFills, IsLoad, LoadFills, IsReplay, RunRefuses}
use Rattle.sym_top.specs.CommandLine.{Command, one, asm, list, step, replay, load}
use Rattle.sym_top.specs.OneText.{IsOneText}
use Rattle.sym_top.specs.Stages.{Then, ReadsFile, ReadsRig, ReadsWork, ReadsTrace, WantsMemory}

-- a file to be stored
pub record Output : Type 0 where
  pub name : List ℕ
  pub bytes : List ℕ

-- the text to be printed, and the file to be stored before it, where there is one
pub record Job : Type 0 where
  pub text : List ℕ
  pub output : Option Output

-- the first file that a command loads, and the one that it stores
abbrev pub first_loaded : Command → Option (List ℕ)
first_loaded (one lba) = None
first_loaded (asm file out) = Some file
first_loaded (list file) = Some file
first_loaded (step rig work seed trace) = Some rig
first_loaded (replay rig work trace) = Some rig
first_loaded (load count seed) = None

abbrev pub stored_by : Command → Option (List ℕ)
stored_by (one lba) = None
stored_by (asm file out) = Some out
stored_by (list file) = None
stored_by (step rig work seed trace) = Some trace
stored_by (replay rig work trace) = None
stored_by (load count seed) = None

-- a command that loads nothing and stores nothing
abbrev pub TouchesNoFile : Command → Type 0
TouchesNoFile (one lba) = Unit {0}
TouchesNoFile (load count seed) = Unit {0}
TouchesNoFile _ = ⊥

-- the files of the command, if it has any, are told
abbrev pub IsTold : Command → Option FilesByName → Type 0
IsTold (one lba) files = Unit {0}
IsTold (load count seed) files = Unit {0}
IsTold _ files = IsSome files

-- ---- one

abbrev pub OneYields : (lba : ℕ) → Result Job Refusal → Type 0
OneYields lba (Ok job) = IsOneText lba job.text × (job.output ≡ None)
OneYields lba (Err refusal) = WantsMemory refusal

-- ---- asm

-- the job of `asm`: the words of the source are stored, four bytes each, and their number is printed
pub record IsAssembly (source name : List ℕ) (job : Job) : Type 0 where
  pub image : Image
  pub made : Assembles (source_text source) (Ok image)
  pub stored : job.output ≡ Some (record { name = name; bytes = image_bytes image.words })
  pub printed : job.text ≡ words_line (length image.words)

-- the source has an image
abbrev pub HasImage : List ℕ → Type 0
HasImage source = (image : Image) × Assembles (source_text source) (Ok image)

-- the source has its first fault there
pub record HasSourceFault (source : List ℕ) (line fault : ℕ) : Type 0 where
  pub cause : AsmFault
  pub refused : Assembles (source_text source) (Err cause)
  pub line_is : line_of cause ≡ Some line
  pub fault_is : number_of cause ≡ Some fault

abbrev pub SourceFaults : (source : List ℕ) → Fault → Type 0
SourceFaults source (faults.Source line fault) = HasSourceFault source line fault
SourceFaults source _ = ⊥

abbrev pub RefusesSource : (source : List ℕ) → Refusal → Type 0
RefusesSource source (refusals.Bad fault) = SourceFaults source fault
RefusesSource source refusals.OutOfMemory = Unit {0}
RefusesSource source _ = ⊥

abbrev pub AssemblyYields : (source name : List ℕ) → Result Job Refusal → Type 0
AssemblyYields source name (Ok job) = IsAssembly source name job
AssemblyYields source name (Err refusal) = RefusesSource source refusal

-- ---- list

abbrev pub ListingYields : (image : List ℕ) → Result Job Refusal → Type 0
ListingYields image (Ok job) = IsFileListing image job.text × (job.output ≡ None)
ListingYields image (Err refusal) = WantsMemory refusal

-- ---- step

-- the job of `step`: the trace of the drained serial run of the seed is stored, and its report text is printed
pub record IsRunJob (g : BenchSetting) (seed : ℕ) (name : List ℕ) (job : Job) : Type 0 where
  pub texts : Texts
  pub made : HasTexts g seed texts
  pub stored : job.output ≡ Some (record { name = name; bytes = texts.trace })
  pub printed : job.text ≡ texts.report

abbrev pub StepYields : BenchSetting → (seed : ℕ) → (name : List ℕ) → Result Job Refusal → Type 0
StepYields g seed name (Ok job) = IsRunJob g seed name job
StepYields g seed name (Err refusal) = RunRefuses (SerialFills g seed) refusal

-- ---- replay

abbrev pub ReplayYields : BenchSetting → List TraceLine → Result Job Refusal → Type 0
ReplayYields g lines (Ok job) = IsReplay g lines job.text × (job.output ≡ None)
ReplayYields g lines (Err refusal) = ReplayRefuses g lines refusal

-- ---- load

abbrev pub LoadYields : (count seed : ℕ) → Result Job Refusal → Type 0
LoadYields count seed (Ok job) = IsLoad count seed job.text × (job.output ≡ None)
LoadYields count seed (Err refusal) = RunRefuses (LoadFills count seed) refusal

-- ---- every command

-- The command makes this job of the files, or is refused, by its stages in the order of its words: each file is loaded and
-- read before the next, then comes the run.
abbrev pub Yields : Command → Option FilesByName → Result Job Refusal → Type 0
Yields (one lba) files result = OneYields lba result
Yields (asm file out) files result = Then (ReadsFile files file) (λ source. AssemblyYields source out) result
Yields (list file) files result = Then (ReadsFile files file) ListingYields result
Yields (step rig work seed trace) files result =
    Then (ReadsRig files rig) (λ r. Then (ReadsWork files work) (λ w. StepYields (setting_of r w) seed trace)) result
Yields (replay rig work trace) files result =
    Then (ReadsRig files rig) (λ r. Then (ReadsWork files work) (λ w. Then (ReadsTrace r.version files trace) (ReplayYields (setting_of r w)))) result
Yields (load count seed) files result = LoadYields count seed result

abbrev pub Makes : Command → Option FilesByName → Job → Type 0
Makes c files job = Yields c files (Ok job)

-- a file of the command is refused, or its run, so that it ends with this status
abbrev pub EndsAs : Command → Option FilesByName → Exit → Type 0
EndsAs c files exit = (refusal : Refusal) × (exit_of refusal ≡ exit) × Yields c files (Err refusal)

-- the first file that the command loads is too long
abbrev pub IsFirstLong : Command → Option FilesByName → Type 0
IsFirstLong c files = IsSomeAnd (first_loaded c) (ExceedsLimit file_limit files)

-- ---- valid files

-- the trace is accepted, or reaches the limit of steps before its first fault
abbrev pub IsAccepted : BenchSetting → List TraceLine → Type 0
IsAccepted g lines = ((w : World) × ReplaysTo g lines w) ⊎ ReachesLimit g lines

-- Each file of the command is within its limit and valid: a source has an image, a rig and a work are read, and a trace is
-- accepted or reaches the limit.
abbrev pub IsValid : Command → Option FilesByName → Type 0
IsValid (one lba) files = Unit {0}
IsValid (asm file out) files = (source : List ℕ) × IsFile file_limit files file source × HasImage source
IsValid (list file) files = (image : List ℕ) × IsFile file_limit files file image
IsValid (step rig work seed trace) files = (r : Rig) × (w : Work) × HasRig files rig r × HasWork files work w
IsValid (replay rig work trace) files =
    (r : Rig) × (w : Work) × (lines : List TraceLine) × HasRig files rig r × HasWork files work w × HasTrace r.version files trace lines
    × IsAccepted (setting_of r w) lines
IsValid (load count seed) files = Unit {0}

-- a command that has a list of steps, which may reach its limit
abbrev pub HasSteps : Command → Type 0
HasSteps (step rig work seed trace) = Unit {0}
HasSteps (replay rig work trace) = Unit {0}
HasSteps (load count seed) = Unit {0}
HasSteps _ = ⊥
