-- What a bench is to its callers: the rig and the work, the list of its steps, and the world in which they left it.
use Rattle.std.specs.Prelude.{◌≡◌, ◌≤◌, ℕ, Bool, true, false, List, [], ◌∷◌, ◌++◌, length}
use Rattle.rig_types.specs.declared.step.Entry.{Entry}
use Rattle.world_law.specs.World.{BenchSetting, World}
use Rattle.world_law.specs.Opening.{opened}
use Rattle.world_law.specs.Runs.{Moment, IsRun, last, entries}

pub record History : Type 0 where
  pub setting : BenchSetting
  pub entries : List Entry
  pub world : World

-- the empty list, in the world at its opening
abbrev pub opened_history : BenchSetting → History
opened_history g = record { setting = g; entries = []; world = opened g }

-- the list is lawful, and the world is that of the list
pub record IsReplayed (g : BenchSetting) (es : List Entry) (w : World) : Type 0 where
  pub moments : List Moment
  pub run : IsRun g (opened g) moments
  pub are : entries moments ≡ es
  pub world : last (opened g) moments ≡ w

-- the list has at most as many entries as the rig allows, which are at most as many as any rig allows, and there is room for them
pub record IsBench (g : BenchSetting) (es : List Entry) (w : World) (capacity : ℕ) : Type 0 where
  pub replayed : IsReplayed g es w
  pub within : length es ≤ g.step_limit
  pub limit : g.step_limit ≤ 4194304
  pub room : g.step_limit ≤ capacity

-- the list after a step, which is entered where its answer is recorded
abbrev pub entered : (recorded : Bool) → List Entry → Entry → List Entry
entered true es e = es ++ e ∷ []
entered false es e = es
