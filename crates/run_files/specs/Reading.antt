-- What bytes spell, and their first fault.
use Rattle.std.specs.Prelude.{◌≡◌, ℕ, List, Ok, Err}
use Rattle.rig_types.specs.declared.fault.BadKind.{BadKind}
use Rattle.rig_types.specs.declared.fault.ReadFault.TheVariants as read
use Rattle.rig_types.specs.declared.rig.Rig.{Rig}
use Rattle.rig_types.specs.declared.work.Work.{Work}
use Rattle.file_keys.specs.Documents.{ReadsFile}
use Rattle.rig_reader.specs.RigFile.{plain, rig_fault, rig_of}
use Rattle.work_reader.specs.WorkFile.{plain_work, work_fault, work_of}
use Rattle.trace_text.specs.Grammar.{IsFirstFault}
use Rattle.refusal_lines.specs.declared.fault.Fault.{Fault}
use Rattle.refusal_lines.specs.declared.fault.Fault.TheVariants as faults
use Rattle.refusal_lines.specs.declared.refusal.Refusal.{Refusal}
use Rattle.refusal_lines.specs.declared.refusal.Refusal.TheVariants as refusals

-- the bytes are a file that spells this rig, without a fault
abbrev pub SpellsRig : List ℕ → Rig → Type 0
SpellsRig bytes rig = ReadsFile (Ok rig) bytes rig_fault (λ ms r. plain r ≡ rig_of ms)

-- the first fault of the bytes as a rig is of this kind, at this key
abbrev pub HasRigFault : List ℕ → (key : List ℕ) → BadKind → Type 0
HasRigFault bytes key kind = ReadsFile {A = Rig} (Err (read.Bad key kind)) bytes rig_fault (λ ms r. plain r ≡ rig_of ms)

abbrev pub SpellsWork : List ℕ → Work → Type 0
SpellsWork bytes work = ReadsFile (Ok work) bytes work_fault (λ ms w. plain_work w ≡ work_of ms)

abbrev pub HasWorkFault : List ℕ → (key : List ℕ) → BadKind → Type 0
HasWorkFault bytes key kind = ReadsFile {A = Work} (Err (read.Bad key kind)) bytes work_fault (λ ms w. plain_work w ≡ work_of ms)

-- this is the fault of the bytes: as a rig, as a work, as a trace of a version
abbrev pub IsRigFault : List ℕ → Fault → Type 0
IsRigFault bytes (faults.Rig key kind) = HasRigFault bytes key kind
IsRigFault bytes _ = ⊥

abbrev pub IsWorkFault : List ℕ → Fault → Type 0
IsWorkFault bytes (faults.Work key kind) = HasWorkFault bytes key kind
IsWorkFault bytes _ = ⊥

abbrev pub IsTraceFault : (version : ℕ) → List ℕ → Fault → Type 0
IsTraceFault version bytes (faults.TraceLine line) = IsFirstFault version bytes line
IsTraceFault version bytes _ = ⊥

-- bytes are refused: for their fault, or for want of memory
abbrev pub RefusesBy : (Fault → Type 0) → Refusal → Type 0
RefusesBy Faulty (refusals.Bad fault) = Faulty fault
RefusesBy Faulty refusals.OutOfMemory = Unit {0}
RefusesBy Faulty _ = ⊥

abbrev pub RefusesRig : List ℕ → Refusal → Type 0
RefusesRig bytes refusal = RefusesBy (IsRigFault bytes) refusal

abbrev pub RefusesWork : List ℕ → Refusal → Type 0
RefusesWork bytes refusal = RefusesBy (IsWorkFault bytes) refusal

abbrev pub RefusesTrace : (version : ℕ) → List ℕ → Refusal → Type 0
RefusesTrace version bytes refusal = RefusesBy (IsTraceFault version bytes) refusal
