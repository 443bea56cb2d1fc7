-- Stages of a command, one after another: each gives a value or a refusal, and the first refusal counts.
use Rattle.std.specs.Prelude.{◌⊎◌, ℕ, List, Option, Result, Ok, Err}
use Rattle.sym_io.specs.ByName.{FilesByName}
use Rattle.rig_types.specs.declared.rig.Rig.{Rig}
use Rattle.rig_types.specs.declared.work.Work.{Work}
use Rattle.trace_text.specs.declared.types.TraceLine.{TraceLine}
use Rattle.refusal_lines.specs.declared.fault.Fault.{Fault}
use Rattle.refusal_lines.specs.declared.refusal.Refusal.{Refusal}
use Rattle.refusal_lines.specs.declared.refusal.Refusal.TheVariants as refusals
use Rattle.run_files.specs.Shelves.{IsFile, ExceedsLimit, FitsLimit, file_limit, trace_limit}
use Rattle.run_files.specs.Loading.{HasRig, HasWork, HasTrace, RigFails, WorkFails, TraceFails, NoFault}

-- a stage and then the next: the next is of the first one's value
abbrev pub Then : {A B : Type 0} → (First : Result A Refusal → Type 0) → (Next : A → Result B Refusal → Type 0) → Result B Refusal → Type 0
Then {A} First Next (Ok y) = (x : A) × First (Ok x) × Next x (Ok y)
Then {A} First Next (Err refusal) = First (Err refusal) ⊎ ((x : A) × First (Ok x) × Next x (Err refusal))

-- A file is read, or refused: exactly where it is longer than its limit, or for its first fault, or for want of memory,
-- which comes only of a file within the limit. Whether its load failed is said elsewhere.
abbrev pub Reads : {A : Type 0} → (limit : ℕ) → Option FilesByName → (name : List ℕ) → (Has : A → Type 0) → (Fails : Fault → Type 0) → Result A Refusal → Type 0
Reads limit files name Has Fails (Ok x) = Has x
Reads limit files name Has Fails (Err refusals.Usage) = ⊥
Reads limit files name Has Fails (Err refusals.Read) = ⊥
Reads limit files name Has Fails (Err refusals.Write) = ⊥
Reads limit files name Has Fails (Err refusals.OutOfMemory) = FitsLimit limit files name
Reads limit files name Has Fails (Err (refusals.Bad fault)) = Fails fault
Reads limit files name Has Fails (Err refusals.StepLimit) = ⊥
Reads limit files name Has Fails (Err refusals.TooLong) = ExceedsLimit limit files name

-- the bytes, the rig, the work and the trace of a file
abbrev pub ReadsFile : Option FilesByName → (name : List ℕ) → Result (List ℕ) Refusal → Type 0
ReadsFile files name result = Reads file_limit files name (IsFile file_limit files name) NoFault result

abbrev pub ReadsRig : Option FilesByName → (name : List ℕ) → Result Rig Refusal → Type 0
ReadsRig files name result = Reads file_limit files name (HasRig files name) (RigFails files name) result

abbrev pub ReadsWork : Option FilesByName → (name : List ℕ) → Result Work Refusal → Type 0
ReadsWork files name result = Reads file_limit files name (HasWork files name) (WorkFails files name) result

abbrev pub ReadsTrace : (version : ℕ) → Option FilesByName → (name : List ℕ) → Result (List TraceLine) Refusal → Type 0
ReadsTrace version files name result = Reads trace_limit files name (HasTrace version files name) (TraceFails version files name) result

-- a stage that only want of memory refuses
abbrev pub WantsMemory : Refusal → Type 0
WantsMemory refusals.OutOfMemory = Unit {0}
WantsMemory _ = ⊥
