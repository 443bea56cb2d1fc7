-- Laws of runs.
use Rattle.std.proofs.Common.{◌≡◌, List, [], ◌∷◌, ◌++◌, refl}
use Rattle.world_law.specs.World.{BenchSetting, World}
use Rattle.world_law.specs.Runs.{Moment, Steps, IsRun, last}

pub goes_on : (g : BenchSetting) (w : World) (ms : List Moment) (m : Moment) → IsRun g w ms → Steps g (last w ms) m → IsRun g w (ms ++ m ∷ [])
goes_on g w [] m h k = (k, tt)
goes_on g w (x ∷ xs) m h k = (h.0, goes_on g x.after xs m h.1 k)

pub went_on : (g : BenchSetting) (w : World) (ms : List Moment) (m : Moment) → IsRun g w (ms ++ m ∷ []) → IsRun g w ms × Steps g (last w ms) m
went_on g w [] m h = (tt, h.0)
went_on g w (x ∷ xs) m h =
    let rest : IsRun g x.after xs × Steps g (last x.after xs) m = went_on g x.after xs m h.1 in ((h.0, rest.0), rest.1)

pub ends_after : (w : World) (ms : List Moment) (m : Moment) → last w (ms ++ m ∷ []) ≡ m.after
ends_after w [] m = refl
ends_after w (x ∷ xs) m = ends_after x.after xs m
