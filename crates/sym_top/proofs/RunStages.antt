-- The stages of `run`, over the shelf that it loads from.
use Rattle.std.proofs.Common.{ℕ, List, Option, Result, Ok, Err, inl}
use Rattle.sym_io.specs.ByName.{FilesByName}
use Rattle.rig_types.specs.declared.rig.Rig.{Rig}
use Rattle.rig_types.specs.declared.work.Work.{Work}
use Rattle.refusal_lines.specs.declared.refusal.Refusal.{Refusal}
use Rattle.world_law.specs.World.{BenchSetting}
use Rattle.bench_state.specs.States.{setting_of}
use Rattle.run_files.specs.Shelves.{Shelved, IsKept, file_limit}
use Rattle.run_files.specs.Loading.{HasRig, HasWork, RigFails, WorkFails, LoadsRig, LoadsWork}
use Rattle.run_jobs.specs.PoolRuns.{Texts}
use Rattle.sym_top.specs.Making.{Passes}
use Rattle.sym_top.specs.Running.{RunWords, PoolYields, RunYields}
use Rattle.sym_top.specs.Stages.{Then, ReadsRig, ReadsWork}
use Rattle.sym_top.proofs.Passing.{passed_on, passed_as, file_refused, IsPure, pure_passes, then_next}

pure-pool : (g : BenchSetting) → IsPure (PoolYields g)
pure-pool g = record { usage = λ h. h; read = λ h. h; write = λ h. h }

abbrev from_run_work : (rig : Rig) (work : List ℕ) → Option FilesByName → Result Texts Refusal → Type 0
from_run_work r work files result = Then (ReadsWork files work) (λ (w : Work). PoolYields (setting_of r w)) result

run-on : (a : RunWords) (x : Rig) (s m t : Shelved) (r : Result Texts Refusal) → HasRig s.files a.rig x → IsKept s m → Passes (from_run_work x a.work) m t r → Passes (RunYields a) s t r
run-on a x s m t r is k h =
    passed_as (from_run_work x a.work) (RunYields a) s t r (then_next (ReadsRig s.files a.rig) (λ (y : Rig). from_run_work y a.work s.files) x is)
    (passed_on (from_run_work x a.work) s m t r k h)

pub run_rig_refused : (a : RunWords) (s t : Shelved) (r : Refusal) → LoadsRig a.rig s t (Err r) → Passes (RunYields a) s t (Err r)
run_rig_refused a s t r h = file_refused file_limit a.rig (HasRig s.files a.rig) (RigFails s.files a.rig) (RunYields a) s t r (λ q g. inl g) h

pub run_work_refused : (a : RunWords) (x : Rig) (s m t : Shelved) (r : Refusal) → HasRig s.files a.rig x → IsKept s m → LoadsWork a.work m t (Err r) → Passes (RunYields a) s t (Err r)
run_work_refused a x s m t r is k h =
    run-on a x s m t (Err r) is k (file_refused file_limit a.work (HasWork m.files a.work) (WorkFails m.files a.work) (from_run_work x a.work) m t r (λ q g. inl g) h)

pub run_made : (a : RunWords) (x : Rig) (y : Work) (s m t : Shelved) (r : Result Texts Refusal) → HasRig s.files a.rig x → IsKept s m → HasWork m.files a.work y → IsKept m t
    → PoolYields (setting_of x y) r → Passes (RunYields a) s t r
run_made a x y s m t r is k there l h =
    run-on a x s m t r is k
    (pure_passes (PoolYields (setting_of x y)) (from_run_work x a.work) m t r (pure-pool (setting_of x y)) (then_next (ReadsWork m.files a.work) (λ (w : Work). PoolYields (setting_of x w)) y there) l h)
