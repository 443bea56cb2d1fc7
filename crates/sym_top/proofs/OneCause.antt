-- A command of told files has one end, but for want of memory.
use Rattle.std.proofs.Common.{◌≡◌, ◌≢◌, ℕ, List, Some, None, Option, Ok, Err, refl, sym, ap, ◌∙◌}
use Rattle.scripts_asm.specs.declared.assembling.AsmFault.TheVariants.{OutOfMemory}
use Rattle.scripts_asm.specs.Image.{line_of, number_of}
use Rattle.source_files.specs.Sources.{source_text}
use Rattle.source_files.proofs.OneAnswer.{one_assembly}
use Rattle.sym_io.specs.ByName.{FilesByName}
use Rattle.rig_types.specs.declared.rig.Rig.{Rig}
use Rattle.rig_types.specs.declared.work.Work.{Work}
use Rattle.trace_text.specs.declared.types.TraceLine.{TraceLine}
use Rattle.trace_text.specs.Grammar.{IsTrace}
use Rattle.refusal_lines.specs.declared.fault.Fault.{Fault}
use Rattle.refusal_lines.specs.declared.fault.Fault.TheVariants as faults
use Rattle.refusal_lines.specs.declared.refusal.Refusal.{Refusal}
use Rattle.refusal_lines.specs.declared.refusal.Refusal.TheVariants as refusals
use Rattle.world_law.specs.World.{BenchSetting}
use Rattle.bench_state.specs.States.{setting_of}
use Rattle.run_files.specs.Shelves.{IsFile, file_limit, trace_limit}
use Rattle.run_files.specs.Reading.{SpellsRig, SpellsWork, IsRigFault, IsWorkFault, IsTraceFault}
use Rattle.run_files.specs.Loading.{HasRig, HasWork, HasTrace, RigFails, WorkFails, TraceFails, NoFault}
use Rattle.run_files.specs.Laws.{OneOf}
use Rattle.run_files.proofs.OneReading.{one_rig, one_work, one_trace}
use Rattle.bench_jobs.specs.Jobs.{StepRuns, LoadRuns, ReplayRuns}
use Rattle.bench_jobs.specs.Laws.{OneResult}
use Rattle.bench_jobs.proofs.OneResults.{one_result}
use Rattle.replay_run.proofs.OneReplay.{one_replay}
use Rattle.sym_top.specs.CommandLine.{Command, one, asm, list, step, replay, load}
use Rattle.sym_top.specs.Jobs.{Job, IsTold, IsAssembly, HasSourceFault, OneYields, AssemblyYields, ListingYields, StepYields, ReplayYields, LoadYields, Yields}
use Rattle.sym_top.specs.Stages.{Then, ReadsFile, ReadsRig, ReadsWork, ReadsTrace}
use Rattle.sym_top.specs.Causes.{OneEnd, OneCause}
use Rattle.sym_top.proofs.OneEnds.{AreWithin, file_fits, in_fits, reads_end, wants_end, answers_end, then_ends}

-- ---- sources

-- a fault of a source isn't want of memory
pub is_fault : (source : List ℕ) (line fault : ℕ) (h : HasSourceFault source line fault) → h.cause ≢ OutOfMemory
is_fault source line fault h e = let none : line_of h.cause ≡ None = ap line_of e in let some : line_of h.cause ≡ Some line = h.line_is in cc

no_both : (source name : List ℕ) (job : Job) (line fault : ℕ) → IsAssembly source name job → HasSourceFault source line fault → ⊥
no_both source name job line fault a h = is_fault source line fault h (one_assembly.apart (source_text source) a.image h.cause a.made h.refused)

same-fault : (source : List ℕ) (line line' fault fault' : ℕ) → HasSourceFault source line fault → HasSourceFault source line' fault' → faults.Source line fault ≡ faults.Source line' fault'
same-fault source line line' fault fault' h k =
    let same : h.cause ≡ k.cause = one_assembly.faults (source_text source) h.cause k.cause h.refused k.refused (is_fault source line fault h) (is_fault source line' fault' k) in
    let lines : Some line ≡ Some line' = sym h.line_is ∙ ap line_of same ∙ k.line_is in
    let numbers : Some fault ≡ Some fault' = sym h.fault_is ∙ ap number_of same ∙ k.fault_is in
    cc

-- a refusal that isn't want of memory is a fault of the source
record Faulty (source : List ℕ) (r : Refusal) : Type 0 where
  pub line : ℕ
  pub fault : ℕ
  pub is : r ≡ refusals.Bad (faults.Source line fault)
  pub has : HasSourceFault source line fault

assembly-end : (source name : List ℕ) → OneEnd (AssemblyYields source name)
assembly-end source name = record { either = either; refusal = refusal }
  where
    either : (x : Job) (r : Refusal) → AssemblyYields source name (Ok x) → AssemblyYields source name (Err r) → r ≡ refusals.OutOfMemory
    either x refusals.OutOfMemory h k = refl
    either x (refusals.Bad (faults.Source line fault)) h k = absurd (no_both source name x line fault h k)
    either x (refusals.Bad (faults.Rig key kind)) h k = absurd k
    either x (refusals.Bad (faults.Work key kind)) h k = absurd k
    either x (refusals.Bad (faults.TraceLine n)) h k = absurd k
    either x (refusals.Bad (faults.UnknownStep n)) h k = absurd k
    either x (refusals.Bad (faults.TraceStep n)) h k = absurd k
    either x (refusals.Bad faults.NotDrained) h k = absurd k
    either x refusals.Usage h k = absurd k
    either x refusals.Read h k = absurd k
    either x refusals.Write h k = absurd k
    either x refusals.StepLimit h k = absurd k
    either x refusals.TooLong h k = absurd k

    faulty : (r : Refusal) → AssemblyYields source name (Err r) → r ≢ refusals.OutOfMemory → Faulty source r
    faulty refusals.OutOfMemory h n = absurd (n refl)
    faulty (refusals.Bad (faults.Source line fault)) h n = record { line = line; fault = fault; is = refl; has = h }
    faulty (refusals.Bad (faults.Rig key kind)) h n = absurd h
    faulty (refusals.Bad (faults.Work key kind)) h n = absurd h
    faulty (refusals.Bad (faults.TraceLine m)) h n = absurd h
    faulty (refusals.Bad (faults.UnknownStep m)) h n = absurd h
    faulty (refusals.Bad (faults.TraceStep m)) h n = absurd h
    faulty (refusals.Bad faults.NotDrained) h n = absurd h
    faulty refusals.Usage h n = absurd h
    faulty refusals.Read h n = absurd h
    faulty refusals.Write h n = absurd h
    faulty refusals.StepLimit h n = absurd h
    faulty refusals.TooLong h n = absurd h

    refusal : (q r : Refusal) → AssemblyYields source name (Err q) → AssemblyYields source name (Err r) → q ≢ refusals.OutOfMemory → r ≢ refusals.OutOfMemory → q ≡ r
    refusal q r h k m n =
        let a : Faulty source q = faulty q h m in
        let b : Faulty source r = faulty r k n in
        a.is ∙ ap (λ (f : Fault). refusals.Bad f) (same-fault source a.line b.line a.fault b.fault a.has b.has) ∙ sym b.is

-- ---- files

pub plain_within : (files : Option FilesByName) (name : List ℕ) → AreWithin file_limit files name (IsFile file_limit files name) NoFault
plain_within files name = record { value = λ bytes is. file_fits file_limit files name bytes is; fault = λ f h. absurd h }

pub one_file : (held : FilesByName) (name : List ℕ) → OneOf (IsFile file_limit (Some held) name) NoFault
one_file held name = record { value = λ a b i j. i.whole ∙ sym j.whole; either = λ a f i h. absurd h; fault = λ e f h k. absurd h }

pub rig_within : (files : Option FilesByName) (name : List ℕ) → AreWithin file_limit files name (HasRig files name) (RigFails files name)
rig_within files name = record { value = λ r h. in_fits file_limit files name SpellsRig r h; fault = λ f h. in_fits file_limit files name IsRigFault f h }

pub work_within : (files : Option FilesByName) (name : List ℕ) → AreWithin file_limit files name (HasWork files name) (WorkFails files name)
work_within files name = record { value = λ w h. in_fits file_limit files name SpellsWork w h; fault = λ f h. in_fits file_limit files name IsWorkFault f h }

pub trace_within : (version : ℕ) (files : Option FilesByName) (name : List ℕ) → AreWithin trace_limit files name (HasTrace version files name) (TraceFails version files name)
trace_within version files name = record {
  value = λ ls h. in_fits trace_limit files name (IsTrace version) ls h;
  fault = λ f h. in_fits trace_limit files name (IsTraceFault version) f h;
}

-- ---- runs

results : OneResult
results = one_result one_replay

step-end : (g : BenchSetting) (seed : ℕ) (name : List ℕ) → OneEnd (StepYields g seed name)
step-end g seed name = answers_end (StepRuns g seed) (StepYields g seed name) (results.step g seed) (λ job h. (h.texts, h.made)) (λ r h. h)

replay-end : (g : BenchSetting) (lines : List TraceLine) → OneEnd (ReplayYields g lines)
replay-end g lines = answers_end (ReplayRuns g lines) (ReplayYields g lines) (results.replay g lines) (λ job h. (job.text, h.0)) (λ r h. h)

load-end : (count seed : ℕ) → OneEnd (LoadYields count seed)
load-end count seed = answers_end (LoadRuns count seed) (LoadYields count seed) (results.load count seed) (λ job h. (job.text, h.0)) (λ r h. h)

-- ---- every command

held-end : (c : Command) (held : FilesByName) → OneEnd (Yields c (Some held))
held-end (one lba) held = wants_end (λ (j : Job). Unit {0}) (OneYields lba) (λ r h. h)
held-end (asm file out) held =
    then_ends (ReadsFile (Some held) file) (λ (source : List ℕ). AssemblyYields source out) (one_file held file).value
    (reads_end file_limit held file (IsFile file_limit (Some held) file) NoFault (one_file held file) (plain_within (Some held) file)) (λ source. assembly-end source out)
held-end (list file) held =
    then_ends (ReadsFile (Some held) file) ListingYields (one_file held file).value
    (reads_end file_limit held file (IsFile file_limit (Some held) file) NoFault (one_file held file) (plain_within (Some held) file))
    (λ image. wants_end (λ (j : Job). Unit {0}) (ListingYields image) (λ r h. h))
held-end (step rig work seed trace) held =
    then_ends (ReadsRig (Some held) rig) (λ (r : Rig). Then (ReadsWork (Some held) work) (λ (w : Work). StepYields (setting_of r w) seed trace)) (one_rig held rig).value
    (reads_end file_limit held rig (HasRig (Some held) rig) (RigFails (Some held) rig) (one_rig held rig) (rig_within (Some held) rig))
    (λ r.
    then_ends (ReadsWork (Some held) work) (λ (w : Work). StepYields (setting_of r w) seed trace) (one_work held work).value
    (reads_end file_limit held work (HasWork (Some held) work) (WorkFails (Some held) work) (one_work held work) (work_within (Some held) work))
    (λ w. step-end (setting_of r w) seed trace))
held-end (replay rig work trace) held =
    then_ends (ReadsRig (Some held) rig) (λ (r : Rig). Then (ReadsWork (Some held) work) (λ (w : Work). Then (ReadsTrace r.version (Some held) trace) (ReplayYields (setting_of r w)))) (one_rig held rig).value
    (reads_end file_limit held rig (HasRig (Some held) rig) (RigFails (Some held) rig) (one_rig held rig) (rig_within (Some held) rig))
    (λ r.
    then_ends (ReadsWork (Some held) work) (λ (w : Work). Then (ReadsTrace r.version (Some held) trace) (ReplayYields (setting_of r w))) (one_work held work).value
    (reads_end file_limit held work (HasWork (Some held) work) (WorkFails (Some held) work) (one_work held work) (work_within (Some held) work))
    (λ w.
    then_ends (ReadsTrace r.version (Some held) trace) (ReplayYields (setting_of r w)) (one_trace r.version held trace).value
    (reads_end trace_limit held trace (HasTrace r.version (Some held) trace) (TraceFails r.version (Some held) trace) (one_trace r.version held trace) (trace_within r.version (Some held) trace))
    (replay-end (setting_of r w))))
held-end (load count seed) held = load-end count seed

pub one_cause : OneCause
one_cause = held-end

-- the same where a command has no file that isn't told
pub told_end : (c : Command) (files : Option FilesByName) → IsTold c files → OneEnd (Yields c files)
told_end c (Some held) told = held-end c held
told_end (one lba) None told = wants_end (λ (j : Job). Unit {0}) (OneYields lba) (λ r h. h)
told_end (load count seed) None told = load-end count seed
told_end (asm file out) None told = absurd cc
told_end (list file) None told = absurd cc
told_end (step rig work seed trace) None told = absurd cc
told_end (replay rig work trace) None told = absurd cc
