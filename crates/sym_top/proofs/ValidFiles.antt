-- How a command of valid files is refused, and one whose first file is too long.
use Rattle.std.proofs.Common.{◌≡◌, ◌≢◌, ℕ, List, Option, Some, None, Result, Ok, Err, refl, subst, inl, inr}
use Rattle.std.specs.Prelude.{◌⊎◌}
use Rattle.sym_io.specs.ByName.{FilesByName}
use Rattle.source_files.specs.Sources.{source_text}
use Rattle.source_files.proofs.OneAnswer.{one_assembly}
use Rattle.rig_types.specs.declared.rig.Rig.{Rig}
use Rattle.rig_types.specs.declared.work.Work.{Work}
use Rattle.trace_text.specs.declared.types.TraceLine.{TraceLine}
use Rattle.refusal_lines.specs.Refusals.{exit_of}
use Rattle.refusal_lines.specs.declared.exit.Exit.TheVariants as exits
use Rattle.refusal_lines.specs.declared.fault.Fault.{Fault}
use Rattle.refusal_lines.specs.declared.fault.Fault.TheVariants as faults
use Rattle.refusal_lines.specs.declared.refusal.Refusal.{Refusal}
use Rattle.refusal_lines.specs.declared.refusal.Refusal.TheVariants as refusals
use Rattle.world_law.specs.World.{BenchSetting, World}
use Rattle.bench_state.specs.States.{setting_of}
use Rattle.run_files.specs.Shelves.{IsFile, ExceedsLimit, file_limit, trace_limit}
use Rattle.run_files.specs.Loading.{HasRig, HasWork, HasTrace, RigFails, WorkFails, TraceFails, NoFault}
use Rattle.run_files.proofs.OneReading.{one_rig, one_work, one_trace}
use Rattle.replay_run.specs.Replays.{ReplayRefuses}
use Rattle.replay_run.proofs.OneReplay.{one_replay}
use Rattle.bench_jobs.specs.Jobs.{RunRefuses}
use Rattle.sym_top.specs.CommandLine.{Command, one, asm, list, step, replay, load}
use Rattle.sym_top.specs.Jobs.{Job, IsTold, HasImage, IsAccepted, AssemblyYields, ListingYields, StepYields, ReplayYields, Makes, Yields, IsFirstLong, IsValid, HasSteps}
use Rattle.sym_top.specs.Stages.{Then, Reads, ReadsFile, ReadsRig, ReadsWork, ReadsTrace, WantsMemory}
use Rattle.sym_top.specs.Causes.{OneEnd}
use Rattle.sym_top.proofs.OneEnds.{AreWithin, not_long, reads_end}
use Rattle.sym_top.proofs.OneCause.{is_fault, one_file, plain_within, rig_within, work_within, trace_within}

-- ---- valid files

abbrev pub IsWantOrFull : Refusal → Type 0
IsWantOrFull r = (r ≡ refusals.OutOfMemory) ⊎ (r ≡ refusals.StepLimit)

pub then_valid : {A B : Type 0} (First : Result A Refusal → Type 0) (Next : A → Result B Refusal → Type 0) (x : A) → First (Ok x) → ((y : A) → First (Ok y) → y ≡ x) → OneEnd First
    → ((r : Refusal) → Next x (Err r) → IsWantOrFull r) → (r : Refusal) → Then First Next (Err r) → IsWantOrFull r
then_valid First Next x f once first next r (inl h) = inl (first.either x r f h)
then_valid {A} First Next x f once first next r (inr (z, g, k)) = next r (subst (λ (w : A). Next w (Err r)) (once z g) k)

pub only_wants : (r : Refusal) → WantsMemory r → IsWantOrFull r
only_wants refusals.OutOfMemory h = inl refl
only_wants refusals.Usage h = absurd h
only_wants refusals.Read h = absurd h
only_wants refusals.Write h = absurd h
only_wants (refusals.Bad f) h = absurd h
only_wants refusals.StepLimit h = absurd h
only_wants refusals.TooLong h = absurd h

fills : (Fills : Type 0) (r : Refusal) → RunRefuses Fills r → IsWantOrFull r
fills Fills refusals.OutOfMemory h = inl refl
fills Fills refusals.StepLimit h = inr refl
fills Fills refusals.Usage h = absurd h
fills Fills refusals.Read h = absurd h
fills Fills refusals.Write h = absurd h
fills Fills (refusals.Bad f) h = absurd h
fills Fills refusals.TooLong h = absurd h

assembles : (source name : List ℕ) → HasImage source → (r : Refusal) → AssemblyYields source name (Err r) → IsWantOrFull r
assembles source name (image, made) refusals.OutOfMemory h = inl refl
assembles source name (image, made) (refusals.Bad (faults.Source line fault)) h =
    absurd (is_fault source line fault h (one_assembly.apart (source_text source) image h.cause made h.refused))
assembles source name (image, made) (refusals.Bad (faults.Rig key kind)) h = absurd h
assembles source name (image, made) (refusals.Bad (faults.Work key kind)) h = absurd h
assembles source name (image, made) (refusals.Bad (faults.TraceLine n)) h = absurd h
assembles source name (image, made) (refusals.Bad (faults.UnknownStep n)) h = absurd h
assembles source name (image, made) (refusals.Bad (faults.TraceStep n)) h = absurd h
assembles source name (image, made) (refusals.Bad faults.NotDrained) h = absurd h
assembles source name (image, made) refusals.Usage h = absurd h
assembles source name (image, made) refusals.Read h = absurd h
assembles source name (image, made) refusals.Write h = absurd h
assembles source name (image, made) refusals.StepLimit h = absurd h
assembles source name (image, made) refusals.TooLong h = absurd h

-- a trace that is accepted, or reaches the limit, has no fault
no-fault : (g : BenchSetting) (lines : List TraceLine) (f : Fault) → IsAccepted g lines → ReplayRefuses g lines (refusals.Bad f) → ⊥
no-fault g lines f (inl (w, to)) h =
    let a : Result World Refusal = Ok w in
    let b : Result World Refusal = Err (refusals.Bad f) in
    let same : a ≡ b = one_replay g lines a b to h (λ e. absurd cc) (λ e. absurd cc) in
    absurd cc
no-fault g lines f (inr full) h =
    let a : Result World Refusal = Err refusals.StepLimit in
    let b : Result World Refusal = Err (refusals.Bad f) in
    let same : a ≡ b = one_replay g lines a b full h (λ e. absurd cc) (λ e. absurd cc) in
    absurd cc

replays : (g : BenchSetting) (lines : List TraceLine) → IsAccepted g lines → (r : Refusal) → ReplayRefuses g lines r → IsWantOrFull r
replays g lines a refusals.OutOfMemory h = inl refl
replays g lines a refusals.StepLimit h = inr refl
replays g lines a (refusals.Bad f) h = absurd (no-fault g lines f a h)
replays g lines a refusals.Usage h = absurd h
replays g lines a refusals.Read h = absurd h
replays g lines a refusals.Write h = absurd h
replays g lines a refusals.TooLong h = absurd h

pub valid_ends : (c : Command) (files : Option FilesByName) (r : Refusal) → IsValid c files → Yields c files (Err r) → IsTold c files → IsWantOrFull r
valid_ends (one lba) files r valid y told = only_wants r y
valid_ends (load count seed) files r valid y told = fills _ r y
valid_ends (asm file out) None r valid y told = absurd cc
valid_ends (list file) None r valid y told = absurd cc
valid_ends (step rig work seed trace) None r valid y told = absurd cc
valid_ends (replay rig work trace) None r valid y told = absurd cc
valid_ends (asm file out) (Some held) r (source, is, image) y told =
    then_valid (ReadsFile (Some held) file) (λ (s : List ℕ). AssemblyYields s out) source is (λ z g. (one_file held file).value z source g is)
    (reads_end file_limit held file (IsFile file_limit (Some held) file) NoFault (one_file held file) (plain_within (Some held) file)) (assembles source out image) r y
valid_ends (list file) (Some held) r (image, is) y told =
    then_valid (ReadsFile (Some held) file) ListingYields image is (λ z g. (one_file held file).value z image g is)
    (reads_end file_limit held file (IsFile file_limit (Some held) file) NoFault (one_file held file) (plain_within (Some held) file)) only_wants r y
valid_ends (step rig work seed trace) (Some held) r (x, w, is, there) y told =
    then_valid (ReadsRig (Some held) rig) (λ (q : Rig). Then (ReadsWork (Some held) work) (λ (v : Work). StepYields (setting_of q v) seed trace)) x is (λ z g. (one_rig held rig).value z x g is)
    (reads_end file_limit held rig (HasRig (Some held) rig) (RigFails (Some held) rig) (one_rig held rig) (rig_within (Some held) rig))
    (then_valid (ReadsWork (Some held) work) (λ (v : Work). StepYields (setting_of x v) seed trace) w there (λ z g. (one_work held work).value z w g there)
    (reads_end file_limit held work (HasWork (Some held) work) (WorkFails (Some held) work) (one_work held work) (work_within (Some held) work)) (fills _))
    r y
valid_ends (replay rig work trace) (Some held) r (x, w, lines, is, there, told_lines, accepted) y told =
    then_valid (ReadsRig (Some held) rig) (λ (q : Rig). Then (ReadsWork (Some held) work) (λ (v : Work). Then (ReadsTrace q.version (Some held) trace) (ReplayYields (setting_of q v)))) x is
    (λ z g. (one_rig held rig).value z x g is)
    (reads_end file_limit held rig (HasRig (Some held) rig) (RigFails (Some held) rig) (one_rig held rig) (rig_within (Some held) rig))
    (then_valid (ReadsWork (Some held) work) (λ (v : Work). Then (ReadsTrace x.version (Some held) trace) (ReplayYields (setting_of x v))) w there (λ z g. (one_work held work).value z w g there)
    (reads_end file_limit held work (HasWork (Some held) work) (WorkFails (Some held) work) (one_work held work) (work_within (Some held) work))
    (then_valid (ReadsTrace x.version (Some held) trace) (ReplayYields (setting_of x w)) lines told_lines (λ z g. (one_trace x.version held trace).value z lines g told_lines)
    (reads_end trace_limit held trace (HasTrace x.version (Some held) trace) (TraceFails x.version (Some held) trace) (one_trace x.version held trace) (trace_within x.version (Some held) trace))
    (replays (setting_of x w) lines accepted)))
    r y

-- a command is refused for the limit of its list only where it has one
pub has_steps : (c : Command) (files : Option FilesByName) → Yields c files (Err refusals.StepLimit) → HasSteps c
has_steps (one lba) files y = absurd y
has_steps (asm file out) files (inl h) = absurd h
has_steps (asm file out) files (inr (x, g, h)) = absurd h
has_steps (list file) files (inl h) = absurd h
has_steps (list file) files (inr (x, g, h)) = absurd h
has_steps (step rig work seed trace) files y = tt
has_steps (replay rig work trace) files y = tt
has_steps (load count seed) files y = tt

-- ---- a first file that is too long

reads-long : {A : Type 0} (limit : ℕ) (held : FilesByName) (name : List ℕ) (Has : A → Type 0) (Fails : Fault → Type 0) → AreWithin limit (Some held) name Has Fails → ExceedsLimit limit (Some held) name
    → (r : Refusal) → Reads limit (Some held) name Has Fails (Err r) → r ≡ refusals.TooLong
reads-long limit held name Has Fails within long refusals.OutOfMemory h = absurd (not_long limit held name h long)
reads-long limit held name Has Fails within long (refusals.Bad f) h = absurd (not_long limit held name (within.fault f h) long)
reads-long limit held name Has Fails within long refusals.TooLong h = refl
reads-long limit held name Has Fails within long refusals.Usage h = absurd h
reads-long limit held name Has Fails within long refusals.Read h = absurd h
reads-long limit held name Has Fails within long refusals.Write h = absurd h
reads-long limit held name Has Fails within long refusals.StepLimit h = absurd h

pub then_long : {A B : Type 0} (limit : ℕ) (held : FilesByName) (name : List ℕ) (Has : A → Type 0) (Fails : Fault → Type 0) (Next : A → Result B Refusal → Type 0) → AreWithin limit (Some held) name Has Fails
    → ExceedsLimit limit (Some held) name → (r : Refusal) → Then (Reads limit (Some held) name Has Fails) Next (Err r) → r ≡ refusals.TooLong
then_long limit held name Has Fails Next within long r (inl h) = reads-long limit held name Has Fails within long r h
then_long limit held name Has Fails Next within long r (inr (x, g, k)) = absurd (not_long limit held name (within.value x g) long)

pub long_ends : (c : Command) (files : Option FilesByName) (r : Refusal) → IsFirstLong c files → Yields c files (Err r) → IsTold c files → r ≡ refusals.TooLong
long_ends (one lba) files r long y told = absurd long
long_ends (load count seed) files r long y told = absurd long
long_ends (asm file out) None r long y told = absurd cc
long_ends (list file) None r long y told = absurd cc
long_ends (step rig work seed trace) None r long y told = absurd cc
long_ends (replay rig work trace) None r long y told = absurd cc
long_ends (asm file out) (Some held) r long y told =
    then_long file_limit held file (IsFile file_limit (Some held) file) NoFault (λ (s : List ℕ). AssemblyYields s out) (plain_within (Some held) file) long r y
long_ends (list file) (Some held) r long y told =
    then_long file_limit held file (IsFile file_limit (Some held) file) NoFault ListingYields (plain_within (Some held) file) long r y
long_ends (step rig work seed trace) (Some held) r long y told =
    then_long file_limit held rig (HasRig (Some held) rig) (RigFails (Some held) rig) (λ (q : Rig). Then (ReadsWork (Some held) work) (λ (v : Work). StepYields (setting_of q v) seed trace))
    (rig_within (Some held) rig) long r y
long_ends (replay rig work trace) (Some held) r long y told =
    then_long file_limit held rig (HasRig (Some held) rig) (RigFails (Some held) rig)
    (λ (q : Rig). Then (ReadsWork (Some held) work) (λ (v : Work). Then (ReadsTrace q.version (Some held) trace) (ReplayYields (setting_of q v)))) (rig_within (Some held) rig) long r y

pub long_made : (c : Command) (files : Option FilesByName) (job : Job) → IsFirstLong c files → Makes c files job → IsTold c files → ⊥
long_made (one lba) files job long m told = long
long_made (load count seed) files job long m told = long
long_made (asm file out) None job long m told = absurd cc
long_made (list file) None job long m told = absurd cc
long_made (step rig work seed trace) None job long m told = absurd cc
long_made (replay rig work trace) None job long m told = absurd cc
long_made (asm file out) (Some held) job long (x, g, k) told = not_long file_limit held file ((plain_within (Some held) file).value x g) long
long_made (list file) (Some held) job long (x, g, k) told = not_long file_limit held file ((plain_within (Some held) file).value x g) long
long_made (step rig work seed trace) (Some held) job long (x, g, k) told = not_long file_limit held rig ((rig_within (Some held) rig).value x g) long
long_made (replay rig work trace) (Some held) job long (x, g, k) told = not_long file_limit held rig ((rig_within (Some held) rig).value x g) long

-- ---- the status of a fault

pub fault_no_usage : (f : Fault) → exit_of (refusals.Bad f) ≢ exits.Usage
fault_no_usage (faults.Rig key kind) e = absurd cc
fault_no_usage (faults.Work key kind) e = absurd cc
fault_no_usage (faults.Source line fault) e = absurd cc
fault_no_usage (faults.TraceLine n) e = absurd cc
fault_no_usage (faults.UnknownStep n) e = absurd cc
fault_no_usage (faults.TraceStep n) e = absurd cc
fault_no_usage faults.NotDrained e = absurd cc

pub fault_no_read : (f : Fault) → exit_of (refusals.Bad f) ≢ exits.ReadFault
fault_no_read (faults.Rig key kind) e = absurd cc
fault_no_read (faults.Work key kind) e = absurd cc
fault_no_read (faults.Source line fault) e = absurd cc
fault_no_read (faults.TraceLine n) e = absurd cc
fault_no_read (faults.UnknownStep n) e = absurd cc
fault_no_read (faults.TraceStep n) e = absurd cc
fault_no_read faults.NotDrained e = absurd cc

pub fault_no_write : (f : Fault) → exit_of (refusals.Bad f) ≢ exits.WriteFault
fault_no_write (faults.Rig key kind) e = absurd cc
fault_no_write (faults.Work key kind) e = absurd cc
fault_no_write (faults.Source line fault) e = absurd cc
fault_no_write (faults.TraceLine n) e = absurd cc
fault_no_write (faults.UnknownStep n) e = absurd cc
fault_no_write (faults.TraceStep n) e = absurd cc
fault_no_write faults.NotDrained e = absurd cc
