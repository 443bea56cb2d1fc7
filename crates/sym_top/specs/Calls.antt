-- What a command was given and what it left, and when each answer comes.
use Rattle.std.specs.Prelude.{◌≡◌, ◌⊎◌, ℕ, List, take, Option, Some, None, IsSome, Result, Ok, Err}
use Rattle.std.specs.Option.{option_map}
use Rattle.std.specs.Io.KnownBytes.{Appends}
use Rattle.sym_io.specs.ByName.{FilesByName, with_file}
use Rattle.sym_io.specs.Causes.{Rose}
use Rattle.refusal_lines.specs.Refusals.{exit_of, Says}
use Rattle.refusal_lines.specs.declared.exit.Exit.{Exit}
use Rattle.refusal_lines.specs.declared.exit.Exit.TheVariants as exits
use Rattle.refusal_lines.specs.declared.refusal.Refusal.{Refusal}
use Rattle.refusal_lines.specs.declared.refusal.Refusal.TheVariants as refusals
use Rattle.run_files.specs.Shelves.{Shelved, IsKept, FailsLoad}
use Rattle.sym_top.specs.Jobs.{Job, Output, first_loaded, Makes, Yields}
use Rattle.sym_top.specs.CommandLine.{Command}

-- a sink, by what it tells and its count of faults
pub record Sunk : Type 0 where
  pub written : Option (List ℕ)
  pub faults : ℕ

abbrev pub sunk : Option (List ℕ) → ℕ → Sunk
sunk written faults = record { written = written; faults = faults }

-- the shelf and the output before and after
pub record Ends : Type 0 where
  pub shelf : Shelved
  pub shelf' : Shelved
  pub out : Sunk
  pub out' : Sunk

abbrev pub ends : Shelved → Shelved → Sunk → Sunk → Ends
ends shelf shelf' out out' = record { shelf = shelf; shelf' = shelf'; out = out; out' = out' }

-- nothing is printed, and no write failed
pub record IsSilent (s s' : Sunk) : Type 0 where
  pub written : s'.written ≡ s.written
  pub faults : s'.faults ≡ s.faults

-- nothing is stored, nothing is printed, and nothing failed
pub record Leaves (e : Ends) : Type 0 where
  pub shelf : IsKept e.shelf e.shelf'
  pub out : IsSilent e.out e.out'

-- the shelf after a job's file was stored, where it has one
abbrev pub files_with : Option Output → Option FilesByName → Option FilesByName
files_with None files = files
files_with (Some o) files = option_map (λ held. with_file held o.name o.bytes) files

-- all is done: the job's file is stored, its text is printed, and nothing failed
pub record Done (job : Job) (e : Ends) : Type 0 where
  pub loads : e.shelf'.loads ≡ e.shelf.loads
  pub stores : e.shelf'.stores ≡ e.shelf.stores
  pub out : e.out'.faults ≡ e.out.faults
  pub stored : e.shelf'.files ≡ files_with job.output e.shelf.files
  pub printed : Appends e.out.written e.out'.written job.text

-- a store failed: no file is changed, and no load failed
pub record FailsStore (s s' : Shelved) : Type 0 where
  pub rose : Rose s.stores s'.stores
  pub loads : s'.loads ≡ s.loads
  pub files : s'.files ≡ s.files

-- the load failed, and nothing is printed
pub record Unloaded (e : Ends) : Type 0 where
  pub failed : FailsLoad e.shelf e.shelf'
  pub out : IsSilent e.out e.out'

-- the store of the job's file failed, and nothing is printed
pub record Unstored (job : Job) (e : Ends) : Type 0 where
  pub some : IsSome job.output
  pub failed : FailsStore e.shelf e.shelf'
  pub out : IsSilent e.out e.out'

-- the output failed: the job's file is stored, and a prefix of its text is printed
pub record Unprinted (job : Job) (e : Ends) : Type 0 where
  pub rose : Rose e.out.faults e.out'.faults
  pub loads : e.shelf'.loads ≡ e.shelf.loads
  pub stores : e.shelf'.stores ≡ e.shelf.stores
  pub stored : e.shelf'.files ≡ files_with job.output e.shelf.files
  pub count : ℕ
  pub printed : Appends e.out.written e.out'.written (take count job.text)

-- a file is stored, or refused
abbrev pub Stores : Output → Shelved → Shelved → Result (Unit {0}) Refusal → Type 0
Stores o s s' (Ok done) = (s'.files ≡ files_with (Some o) s.files) × (s'.loads ≡ s.loads) × (s'.stores ≡ s.stores)
Stores o s s' (Err refusals.Usage) = ⊥
Stores o s s' (Err refusals.Read) = ⊥
Stores o s s' (Err refusals.Write) = FailsStore s s'
Stores o s s' (Err refusals.OutOfMemory) = IsKept s s'
Stores o s s' (Err (refusals.Bad fault)) = ⊥
Stores o s s' (Err refusals.StepLimit) = ⊥
Stores o s s' (Err refusals.TooLong) = ⊥

-- a job is finished, or refused
abbrev pub Finishes : Job → Ends → Result (Unit {0}) Refusal → Type 0
Finishes job e (Ok done) = Done job e
Finishes job e (Err refusals.Usage) = ⊥
Finishes job e (Err refusals.Read) = ⊥
Finishes job e (Err refusals.Write) = Unstored job e ⊎ Unprinted job e
Finishes job e (Err refusals.OutOfMemory) = Leaves e
Finishes job e (Err (refusals.Bad fault)) = ⊥
Finishes job e (Err refusals.StepLimit) = ⊥
Finishes job e (Err refusals.TooLong) = ⊥

-- When a refusal of a command comes, and what it leaves. A load is blamed only where the command loads a file, and a
-- store only where its job stores one.
abbrev pub Refuses : Command → Ends → Refusal → Type 0
Refuses c e refusals.Usage = ⊥
Refuses c e refusals.Read = IsSome (first_loaded c) × Unloaded e
Refuses c e refusals.Write = (job : Job) × Makes c e.shelf.files job × (Unstored job e ⊎ Unprinted job e)
Refuses c e refusals.OutOfMemory = Yields c e.shelf.files (Err refusals.OutOfMemory) × Leaves e
Refuses c e (refusals.Bad fault) = Yields c e.shelf.files (Err (refusals.Bad fault)) × Leaves e
Refuses c e refusals.StepLimit = Yields c e.shelf.files (Err refusals.StepLimit) × Leaves e
Refuses c e refusals.TooLong = Yields c e.shelf.files (Err refusals.TooLong) × Leaves e

-- a command has run, or is refused
abbrev pub Runs : Command → Ends → Result (Unit {0}) Refusal → Type 0
Runs c e (Ok done) = (job : Job) × Makes c e.shelf.files job × Done job e
Runs c e (Err refusal) = Refuses c e refusal

-- the status, and the line on standard error, after a command has run
abbrev pub Ended : Command → Ends → Option (List ℕ) → ℕ → Option (List ℕ) → ℕ → Exit → Type 0
Ended c e written faults written' faults' exit =
    (Runs c e (Ok tt) × (exit ≡ exits.Ok) × (written' ≡ written) × (faults' ≡ faults))
    ⊎ ((refusal : Refusal) × Runs c e (Err refusal) × (exit ≡ exit_of refusal) × Says refusal written faults written' faults')
