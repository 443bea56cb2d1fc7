-- The history of a bench that the serial run of a seed has drained (own). No public contract rests on it.
use Rattle.std.specs.Prelude.{◌≡◌, ℕ, List}
use Rattle.world_law.specs.World.{BenchSetting}
use Rattle.world_law.specs.Opening.{opened}
use Rattle.world_law.specs.Runs.{Moment, last, entries}
use Rattle.bench_core.specs.Histories.{History}
use Rattle.bench_jobs.specs.Jobs.{IsDrainedRun}

pub record IsDrainedHistory (g : BenchSetting) (seed : ℕ) (h : History) : Type 0 where
  pub setting : h.setting ≡ g
  pub moments : List Moment
  pub run : IsDrainedRun g seed moments
  pub entries : entries moments ≡ h.entries
  pub world : last (opened g) moments ≡ h.world
