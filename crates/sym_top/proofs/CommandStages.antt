-- The stages of each command, over the shelf that they load from.
use Rattle.std.proofs.Common.{ℕ, List, Option, Result, Err, inl}
use Rattle.sym_io.specs.ByName.{FilesByName}
use Rattle.rig_types.specs.declared.rig.Rig.{Rig}
use Rattle.rig_types.specs.declared.work.Work.{Work}
use Rattle.trace_text.specs.declared.types.TraceLine.{TraceLine}
use Rattle.refusal_lines.specs.declared.refusal.Refusal.{Refusal}
use Rattle.world_law.specs.World.{BenchSetting}
use Rattle.bench_state.specs.States.{setting_of}
use Rattle.run_files.specs.Shelves.{Shelved, IsKept, IsFile, file_limit, trace_limit}
use Rattle.run_files.specs.Loading.{HasRig, HasWork, HasTrace, RigFails, WorkFails, TraceFails, NoFault, Loads, LoadsRig, LoadsWork, LoadsTrace}
use Rattle.sym_top.specs.CommandLine.{asm, list, step, replay}
use Rattle.sym_top.specs.Jobs.{Job, Yields, AssemblyYields, ListingYields, OneYields, StepYields, ReplayYields, LoadYields}
use Rattle.sym_top.specs.Making.{Passes, Prepares}
use Rattle.sym_top.specs.Stages.{Then, ReadsFile, ReadsRig, ReadsWork, ReadsTrace}
use Rattle.sym_top.proofs.Passing.{passed_on, passed_as, file_refused, IsPure, pure_passes, then_next}

-- ---- stages without files

pub pure_one : (lba : ℕ) → IsPure (OneYields lba)
pure_one lba = record { usage = λ h. h; read = λ h. h; write = λ h. h }

pub pure_assembly : (source name : List ℕ) → IsPure (AssemblyYields source name)
pure_assembly source name = record { usage = λ h. h; read = λ h. h; write = λ h. h }

pub pure_listing : (image : List ℕ) → IsPure (ListingYields image)
pure_listing image = record { usage = λ h. h; read = λ h. h; write = λ h. h }

pub pure_step : (g : BenchSetting) (seed : ℕ) (name : List ℕ) → IsPure (StepYields g seed name)
pure_step g seed name = record { usage = λ h. h; read = λ h. h; write = λ h. h }

pub pure_replay : (g : BenchSetting) (lines : List TraceLine) → IsPure (ReplayYields g lines)
pure_replay g lines = record { usage = λ h. h; read = λ h. h; write = λ h. h }

pub pure_load : (count seed : ℕ) → IsPure (LoadYields count seed)
pure_load count seed = record { usage = λ h. h; read = λ h. h; write = λ h. h }

-- ---- asm and list

pub source_refused : (file out : List ℕ) (s t : Shelved) (r : Refusal) → Loads file_limit file s t (Err r) → Prepares (asm file out) s t (Err r)
source_refused file out s t r h = file_refused file_limit file (IsFile file_limit s.files file) NoFault (Yields (asm file out)) s t r (λ q g. inl g) h

pub source_assembled : (file out source : List ℕ) (s t : Shelved) (r : Result Job Refusal) → IsFile file_limit s.files file source → IsKept s t → AssemblyYields source out r
    → Prepares (asm file out) s t r
source_assembled file out source s t r is k h =
    pure_passes (AssemblyYields source out) (Yields (asm file out)) s t r (pure_assembly source out)
    (then_next (ReadsFile s.files file) (λ (x : List ℕ). AssemblyYields x out) source is) k h

pub image_refused : (file : List ℕ) (s t : Shelved) (r : Refusal) → Loads file_limit file s t (Err r) → Prepares (list file) s t (Err r)
image_refused file s t r h = file_refused file_limit file (IsFile file_limit s.files file) NoFault (Yields (list file)) s t r (λ q g. inl g) h

pub image_listed : (file image : List ℕ) (s t : Shelved) (r : Result Job Refusal) → IsFile file_limit s.files file image → IsKept s t → ListingYields image r → Prepares (list file) s t r
image_listed file image s t r is k h =
    pure_passes (ListingYields image) (Yields (list file)) s t r (pure_listing image) (then_next (ReadsFile s.files file) ListingYields image is) k h

-- ---- step

pub step_rig_refused : (rig work : List ℕ) (seed : ℕ) (trace : List ℕ) (s t : Shelved) (r : Refusal) → LoadsRig rig s t (Err r) → Prepares (step rig work seed trace) s t (Err r)
step_rig_refused rig work seed trace s t r h =
    file_refused file_limit rig (HasRig s.files rig) (RigFails s.files rig) (Yields (step rig work seed trace)) s t r (λ q g. inl g) h

abbrev from_work : (rig : Rig) (work : List ℕ) (seed : ℕ) (trace : List ℕ) → Option FilesByName → Result Job Refusal → Type 0
from_work r work seed trace files result = Then (ReadsWork files work) (λ (w : Work). StepYields (setting_of r w) seed trace) result

step-on : (rig work : List ℕ) (seed : ℕ) (trace : List ℕ) (x : Rig) (s m t : Shelved) (r : Result Job Refusal) → HasRig s.files rig x → IsKept s m
    → Passes (from_work x work seed trace) m t r → Prepares (step rig work seed trace) s t r
step-on rig work seed trace x s m t r is k h =
    passed_as (from_work x work seed trace) (Yields (step rig work seed trace)) s t r
    (then_next (ReadsRig s.files rig) (λ (y : Rig). from_work y work seed trace s.files) x is)
    (passed_on (from_work x work seed trace) s m t r k h)

pub step_work_refused : (rig work : List ℕ) (seed : ℕ) (trace : List ℕ) (x : Rig) (s m t : Shelved) (r : Refusal) → HasRig s.files rig x → IsKept s m → LoadsWork work m t (Err r)
    → Prepares (step rig work seed trace) s t (Err r)
step_work_refused rig work seed trace x s m t r is k h =
    step-on rig work seed trace x s m t (Err r) is k
    (file_refused file_limit work (HasWork m.files work) (WorkFails m.files work) (from_work x work seed trace) m t r (λ q g. inl g) h)

pub step_made : (rig work : List ℕ) (seed : ℕ) (trace : List ℕ) (x : Rig) (y : Work) (s m t : Shelved) (r : Result Job Refusal) → HasRig s.files rig x → IsKept s m → HasWork m.files work y
    → IsKept m t → StepYields (setting_of x y) seed trace r → Prepares (step rig work seed trace) s t r
step_made rig work seed trace x y s m t r is k there l h =
    step-on rig work seed trace x s m t r is k
    (pure_passes (StepYields (setting_of x y) seed trace) (from_work x work seed trace) m t r (pure_step (setting_of x y) seed trace)
    (then_next (ReadsWork m.files work) (λ (w : Work). StepYields (setting_of x w) seed trace) y there) l h)

-- ---- replay

pub replay_rig_refused : (rig work trace : List ℕ) (s t : Shelved) (r : Refusal) → LoadsRig rig s t (Err r) → Prepares (replay rig work trace) s t (Err r)
replay_rig_refused rig work trace s t r h =
    file_refused file_limit rig (HasRig s.files rig) (RigFails s.files rig) (Yields (replay rig work trace)) s t r (λ q g. inl g) h

abbrev from_trace : (rig : Rig) (work : Work) (trace : List ℕ) → Option FilesByName → Result Job Refusal → Type 0
from_trace r w trace files result = Then (ReadsTrace r.version files trace) (ReplayYields (setting_of r w)) result

abbrev from_replayed_work : (rig : Rig) (work trace : List ℕ) → Option FilesByName → Result Job Refusal → Type 0
from_replayed_work r work trace files result = Then (ReadsWork files work) (λ (w : Work). from_trace r w trace files) result

replay-on : (rig work trace : List ℕ) (x : Rig) (s m t : Shelved) (r : Result Job Refusal) → HasRig s.files rig x → IsKept s m → Passes (from_replayed_work x work trace) m t r
    → Prepares (replay rig work trace) s t r
replay-on rig work trace x s m t r is k h =
    passed_as (from_replayed_work x work trace) (Yields (replay rig work trace)) s t r
    (then_next (ReadsRig s.files rig) (λ (y : Rig). from_replayed_work y work trace s.files) x is)
    (passed_on (from_replayed_work x work trace) s m t r k h)

pub replay_work_refused : (rig work trace : List ℕ) (x : Rig) (s m t : Shelved) (r : Refusal) → HasRig s.files rig x → IsKept s m → LoadsWork work m t (Err r)
    → Prepares (replay rig work trace) s t (Err r)
replay_work_refused rig work trace x s m t r is k h =
    replay-on rig work trace x s m t (Err r) is k
    (file_refused file_limit work (HasWork m.files work) (WorkFails m.files work) (from_replayed_work x work trace) m t r (λ q g. inl g) h)

trace-on : (rig work trace : List ℕ) (x : Rig) (y : Work) (s m n t : Shelved) (r : Result Job Refusal) → HasRig s.files rig x → IsKept s m → HasWork m.files work y → IsKept m n
    → Passes (from_trace x y trace) n t r → Prepares (replay rig work trace) s t r
trace-on rig work trace x y s m n t r is k there l h =
    replay-on rig work trace x s m t r is k
    (passed_as (from_trace x y trace) (from_replayed_work x work trace) m t r
    (then_next (ReadsWork m.files work) (λ (w : Work). from_trace x w trace m.files) y there)
    (passed_on (from_trace x y trace) m n t r l h))

pub replay_trace_refused : (rig work trace : List ℕ) (x : Rig) (y : Work) (s m n t : Shelved) (r : Refusal) → HasRig s.files rig x → IsKept s m → HasWork m.files work y → IsKept m n
    → LoadsTrace x.version trace n t (Err r) → Prepares (replay rig work trace) s t (Err r)
replay_trace_refused rig work trace x y s m n t r is k there l h =
    trace-on rig work trace x y s m n t (Err r) is k there l
    (file_refused trace_limit trace (HasTrace x.version n.files trace) (TraceFails x.version n.files trace) (from_trace x y trace) n t r (λ q g. inl g) h)

pub replay_made : (rig work trace : List ℕ) (x : Rig) (y : Work) (lines : List TraceLine) (s m n t : Shelved) (r : Result Job Refusal) → HasRig s.files rig x → IsKept s m → HasWork m.files work y
    → IsKept m n → HasTrace x.version n.files trace lines → IsKept n t → ReplayYields (setting_of x y) lines r → Prepares (replay rig work trace) s t r
replay_made rig work trace x y lines s m n t r is k there l told o h =
    trace-on rig work trace x y s m n t r is k there l
    (pure_passes (ReplayYields (setting_of x y) lines) (from_trace x y trace) n t r (pure_replay (setting_of x y) lines)
    (then_next (ReadsTrace x.version n.files trace) (ReplayYields (setting_of x y)) lines told) o h)
