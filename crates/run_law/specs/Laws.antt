-- Laws of what a run says.
use Rattle.std.specs.Prelude.{◌≡◌, ℕ, List, [], ◌∷◌, ◌++◌}
use Rattle.world_law.specs.World.{BenchSetting, World}
use Rattle.world_law.specs.Runs.{Moment, IsRun, last}
use Rattle.run_law.specs.History.{noted, history}
use Rattle.run_law.specs.Late.{watched, watch}
use Rattle.run_law.specs.Serial.{IsSerial}

-- a run one moment longer is noted as the run, and then this moment in the world after it
abbrev pub NotesOn : Type 0
NotesOn = (g : BenchSetting) (u t : ℕ) (w : World) (ms : List Moment) (m : Moment)
    → history g u t w (ms ++ m ∷ []) ≡ noted g u t (history g u t w ms) (record { before = last w ms; moment = m })

-- and so it is watched
abbrev pub WatchesOn : Type 0
WatchesOn = (g : BenchSetting) (t : ℕ) (w : World) (ms : List Moment) (m : Moment)
    → watch g t w (ms ++ m ∷ []) ≡ watched g t (watch g t w ms) (record { before = last w ms; moment = m })

-- a serial run is a run, and a seed has one
abbrev pub SerialRuns : Type 0
SerialRuns = (g : BenchSetting) (seed : ℕ) (opening : World) (ms : List Moment) → IsSerial g seed opening ms → IsRun g opening ms

abbrev pub SerialOnce : Type 0
SerialOnce = (g : BenchSetting) (seed : ℕ) (opening : World) (ms ns : List Moment) → IsSerial g seed opening ms → IsSerial g seed opening ns → ms ≡ ns
