-- RESTART of a live ticket's block says whether an abort of the ticket answered Marked. Source: own.
use Rattle.std.specs.Prelude.{◌≡◌, ℕ, true, List}
use Rattle.desk_law.specs.Desk.{ticket, lives}
use Rattle.desk_law.specs.Taking.{is_marked}
use Rattle.run_law.specs.History.{history}
use Rattle.world_law.specs.Opening.{opened}
use Rattle.world_law.specs.Runs.{Moment, IsRun, last}
use Rattle.world_law.specs.World.{BenchSetting, IsBenchSetting}
use Rattle.word_owners.specs.Worlds.{HasBytes}

-- in every world of every run, with the history of the ticket in the run
abbrev pub MarksAreTold : Type 0
MarksAreTold =
    (g : BenchSetting) → IsBenchSetting g → HasBytes g → (ms : List Moment) → IsRun g (opened g) ms → (u t : ℕ) → lives (ticket (last (opened g) ms).desk t) ≡ true
    → is_marked (last (opened g) ms).memory (ticket (last (opened g) ms).desk t) ≡ (history g u t (opened g) ms).marked
