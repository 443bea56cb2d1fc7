-- A fold over the changes of a run one moment longer is the fold over those of the run, and then this change.
use Rattle.std.proofs.Common.{◌≡◌, ℕ, List, [], ◌∷◌, ◌++◌, fold, refl}
use Rattle.world_law.specs.World.{BenchSetting, World}
use Rattle.world_law.specs.Runs.{Moment, last}
use Rattle.run_law.specs.Changes.{Change, changes}
use Rattle.run_law.specs.History.{noted, no_history, history}
use Rattle.run_law.specs.Late.{watched, no_watch, watch}

longer : {A : Type 0} (f : A → Change → A) (a : A) (w : World) (ms : List Moment) (m : Moment)
    → fold f a (changes w (ms ++ m ∷ [])) ≡ f (fold f a (changes w ms)) (record { before = last w ms; moment = m })
longer f a w [] m = refl
longer f a w (x ∷ xs) m = longer f (f a (record { before = w; moment = x })) x.after xs m

pub notes_on : (g : BenchSetting) (u t : ℕ) (w : World) (ms : List Moment) (m : Moment)
    → history g u t w (ms ++ m ∷ []) ≡ noted g u t (history g u t w ms) (record { before = last w ms; moment = m })
unfolding history
notes_on g u t w ms m = longer (noted g u t) (no_history g) w ms m

pub watches_on : (g : BenchSetting) (t : ℕ) (w : World) (ms : List Moment) (m : Moment)
    → watch g t w (ms ++ m ∷ []) ≡ watched g t (watch g t w ms) (record { before = last w ms; moment = m })
unfolding watch
watches_on g t w ms m = longer (watched g t) (no_watch g) w ms m
