-- A file is loaded and read, or refused.
use Rattle.std.specs.Prelude.{ℕ, List, Option, Result, Ok, Err}
use Rattle.sym_io.specs.ByName.{FilesByName}
use Rattle.rig_types.specs.declared.rig.Rig.{Rig}
use Rattle.rig_types.specs.declared.work.Work.{Work}
use Rattle.trace_text.specs.declared.types.TraceLine.{TraceLine}
use Rattle.trace_text.specs.Grammar.{IsTrace}
use Rattle.refusal_lines.specs.declared.fault.Fault.{Fault}
use Rattle.refusal_lines.specs.declared.refusal.Refusal.{Refusal}
use Rattle.refusal_lines.specs.declared.refusal.Refusal.TheVariants as refusals
use Rattle.run_files.specs.Shelves.{Shelved, IsKept, FailsLoad, IsFile, ExceedsLimit, FitsLimit, file_limit, trace_limit}
use Rattle.run_files.specs.Reading.{SpellsRig, SpellsWork, IsRigFault, IsWorkFault, IsTraceFault}

-- a file is of bytes that spell this, or have this fault
abbrev pub HasIn : {A : Type 0} → (limit : ℕ) → Option FilesByName → (name : List ℕ) → (List ℕ → A → Type 0) → A → Type 0
HasIn limit files name Says x = (bytes : List ℕ) × IsFile limit files name bytes × Says bytes x

-- the rig, the work and the trace of a file
abbrev pub HasRig : Option FilesByName → (name : List ℕ) → Rig → Type 0
HasRig files name rig = HasIn file_limit files name SpellsRig rig

abbrev pub HasWork : Option FilesByName → (name : List ℕ) → Work → Type 0
HasWork files name work = HasIn file_limit files name SpellsWork work

abbrev pub HasTrace : (version : ℕ) → Option FilesByName → (name : List ℕ) → List TraceLine → Type 0
HasTrace version files name lines = HasIn trace_limit files name (IsTrace version) lines

-- the fault of a file as one of these
abbrev pub RigFails : Option FilesByName → (name : List ℕ) → Fault → Type 0
RigFails files name fault = HasIn file_limit files name IsRigFault fault

abbrev pub WorkFails : Option FilesByName → (name : List ℕ) → Fault → Type 0
WorkFails files name fault = HasIn file_limit files name IsWorkFault fault

abbrev pub TraceFails : (version : ℕ) → Option FilesByName → (name : List ℕ) → Fault → Type 0
TraceFails version files name fault = HasIn trace_limit files name (IsTraceFault version) fault

-- A file within a limit is loaded and read, or refused, and nothing is stored. A load is blamed only where it failed, and
-- want of memory only where the file is within the limit.
abbrev pub LoadsAs : {A : Type 0} → (limit : ℕ) → (name : List ℕ) → (Has : A → Type 0) → (Fails : Fault → Type 0) → Shelved → Shelved → Result A Refusal → Type 0
LoadsAs limit name Has Fails s s' (Ok x) = Has x × IsKept s s'
LoadsAs limit name Has Fails s s' (Err refusals.Usage) = ⊥
LoadsAs limit name Has Fails s s' (Err refusals.Read) = FailsLoad s s'
LoadsAs limit name Has Fails s s' (Err refusals.Write) = ⊥
LoadsAs limit name Has Fails s s' (Err refusals.OutOfMemory) = FitsLimit limit s.files name × IsKept s s'
LoadsAs limit name Has Fails s s' (Err (refusals.Bad fault)) = Fails fault × IsKept s s'
LoadsAs limit name Has Fails s s' (Err refusals.StepLimit) = ⊥
LoadsAs limit name Has Fails s s' (Err refusals.TooLong) = ExceedsLimit limit s.files name × IsKept s s'

abbrev pub NoFault : Fault → Type 0
NoFault fault = ⊥

abbrev pub Loads : (limit : ℕ) → (name : List ℕ) → Shelved → Shelved → Result (List ℕ) Refusal → Type 0
Loads limit name s s' result = LoadsAs limit name (IsFile limit s.files name) NoFault s s' result

abbrev pub LoadsRig : (name : List ℕ) → Shelved → Shelved → Result Rig Refusal → Type 0
LoadsRig name s s' result = LoadsAs file_limit name (HasRig s.files name) (RigFails s.files name) s s' result

abbrev pub LoadsWork : (name : List ℕ) → Shelved → Shelved → Result Work Refusal → Type 0
LoadsWork name s s' result = LoadsAs file_limit name (HasWork s.files name) (WorkFails s.files name) s s' result

abbrev pub LoadsTrace : (version : ℕ) → (name : List ℕ) → Shelved → Shelved → Result (List TraceLine) Refusal → Type 0
LoadsTrace version name s s' result = LoadsAs trace_limit name (HasTrace version s.files name) (TraceFails version s.files name) s s' result
