-- How a command's job is made: the files are loaded and read, and nothing is stored or printed yet. No public contract rests on these.
use Rattle.std.specs.Prelude.{◌≡◌, ℕ, List, length, Some, None, Option, IsSome, Result, Ok, Err}
use Rattle.scripts_asm.specs.declared.assembling.Image.{Image}
use Rattle.scripts_asm.specs.declared.assembling.AsmFault.{AsmFault}
use Rattle.scripts_asm.specs.Image.{line_of, number_of}
use Rattle.source_files.specs.Images.{image_bytes, words_line}
use Rattle.sym_io.specs.ByName.{FilesByName}
use Rattle.refusal_lines.specs.declared.fault.Fault.{Fault}
use Rattle.refusal_lines.specs.declared.fault.Fault.TheVariants as faults
use Rattle.refusal_lines.specs.declared.refusal.Refusal.{Refusal}
use Rattle.refusal_lines.specs.declared.refusal.Refusal.TheVariants as refusals
use Rattle.run_files.specs.Shelves.{Shelved, IsKept, FailsLoad}
use Rattle.sym_top.specs.CommandLine.{Command}
use Rattle.sym_top.specs.Jobs.{Job, first_loaded, Yields}

-- the job of `asm` with this image
pub record IsImageJob (image : Image) (name : List ℕ) (job : Job) : Type 0 where
  pub stored : job.output ≡ Some (record { name = name; bytes = image_bytes image.words })
  pub printed : job.text ≡ words_line (length image.words)

-- the refusal of a source with this fault
abbrev pub BlamesFault : AsmFault → Fault → Type 0
BlamesFault cause (faults.Source line fault) = (line_of cause ≡ Some line) × (number_of cause ≡ Some fault)
BlamesFault cause _ = ⊥

abbrev pub Blames : AsmFault → Refusal → Type 0
Blames cause (refusals.Bad fault) = BlamesFault cause fault
Blames cause refusals.OutOfMemory = line_of cause ≡ None
Blames cause _ = ⊥

-- Stages over a shelf, which load files but change none: a value or a refusal comes of the files alone, but where a load failed.
abbrev pub Passes : {A : Type 0} → (Of : Option FilesByName → Result A Refusal → Type 0) → Shelved → Shelved → Result A Refusal → Type 0
Passes Of s s' (Ok x) = Of s.files (Ok x) × IsKept s s'
Passes Of s s' (Err refusals.Usage) = ⊥
Passes Of s s' (Err refusals.Read) = FailsLoad s s'
Passes Of s s' (Err refusals.Write) = ⊥
Passes Of s s' (Err refusals.OutOfMemory) = Of s.files (Err refusals.OutOfMemory) × IsKept s s'
Passes Of s s' (Err (refusals.Bad fault)) = Of s.files (Err (refusals.Bad fault)) × IsKept s s'
Passes Of s s' (Err refusals.StepLimit) = Of s.files (Err refusals.StepLimit) × IsKept s s'
Passes Of s s' (Err refusals.TooLong) = Of s.files (Err refusals.TooLong) × IsKept s s'

-- a command that loads a file has made its job, or is refused
abbrev pub Prepares : Command → Shelved → Shelved → Result Job Refusal → Type 0
Prepares c s s' result = Passes (Yields c) s s' result

-- a load is blamed only where the command loads a file
abbrev pub BlamesLoad : Command → Result Job Refusal → Type 0
BlamesLoad c (Err refusals.Read) = IsSome (first_loaded c)
BlamesLoad c _ = Unit {0}
