-- What a worker's seat knows, and how a worker ends (own).
use Rattle.std.specs.Prelude.{◌≡◌, ◌⊎◌, ◌≤◌, ◌^◌, ℕ, List, [], ◌∷◌, ◌++◌}
use Rattle.std.specs.List.{All}
use Rattle.rig_types.specs.declared.step.Step.{Step}
use Rattle.rig_types.specs.declared.step.Step.TheVariants as step
use Rattle.bench_lock.specs.Log.{entry}
use Rattle.bench_lock.specs.declared.view.View.{View}
use Rattle.world_law.specs.World.{BenchSetting}
use Rattle.seat_law.specs.Outcomes.{SeesWorld, SeesFull, SeesDrained}
use Rattle.bench_pool.specs.declared.worker.End.{End}
use Rattle.bench_pool.specs.declared.worker.End.TheVariants as end
use Rattle.bench_pool.specs.declared.worker.WorkerFault.{WorkerFault}
use Rattle.bench_pool.specs.declared.worker.WorkerFault.TheVariants as fault

-- the list that the seat has seen is a lawful one of the bench that it was opened with; it is drained; it is full and not drained
pub record Sees (v : View BenchSetting Step) : Type 0 where
  pub setting : BenchSetting
  pub sees : SeesWorld v setting

pub record IsDrained (v : View BenchSetting Step) : Type 0 where
  pub setting : BenchSetting
  pub drained : SeesDrained v setting

pub record IsFull (v : View BenchSetting Step) : Type 0 where
  pub setting : BenchSetting
  pub full : SeesFull v setting

abbrev pub Ends : View BenchSetting Step → End → Type 0
Ends v end.Drained = IsDrained v
Ends v end.StepLimit = IsFull v
Ends v end.OutOfMemory = Sees v

abbrev pub Fails : View BenchSetting Step → WorkerFault → Type 0
Fails v fault.StepLimit = IsFull v
Fails v fault.OutOfMemory = Sees v

-- the seat makes no entry but this one, and this at most once
abbrev pub MayAdd : Step → View BenchSetting Step → View BenchSetting Step → Type 0
MayAdd x v w = (w.own ≡ v.own) ⊎ (w.own ≡ v.own ++ entry v.caller x ∷ [])

-- each new entry is a Chip step whose word has bit 31 set
abbrev pub IsEager : ℕ × Step → Type 0
IsEager (c, step.Chip word) = 2 ^ 31 ≤ word
IsEager (c, _) = ⊥

pub record AddsEager (old new : List (ℕ × Step)) : Type 0 where
  pub more : List (ℕ × Step)
  pub are : new ≡ old ++ more
  pub eager : All IsEager more
