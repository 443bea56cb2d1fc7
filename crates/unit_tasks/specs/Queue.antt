-- The tasks of a unit that aren't connected, with the places for further ones.
use Rattle.std.specs.Prelude.{ℕ, ◌+◌, ◌^◌, ◌<◌, ◌≤◌, List, length}
use Rattle.std.specs.List.{All, AllPairs}
use Rattle.plain_lun.specs.Unit.{UnitState}
use Rattle.target_law.specs.Session.{Task}
use Rattle.target_law.specs.Sound.{IsWaiting}

-- the tasks, how many places are idle, and how many tasks there may be at once
pub record Queue : Type 0 where
  pub tasks : List Task
  pub idle : ℕ
  pub depth : ℕ

-- the tag of the first isn't above that of the second
abbrev pub IsBefore : Task → Task → Type 0
IsBefore j k = j.tag ≤ k.tag

-- the tasks stand by rising tag, with the idle places they are no more than the depth, a number of 16 bits, and both vectors have room for
-- the depth
pub record IsQueue (depth : ℕ) (tasks : List Task) (idle tasks_capacity idle_capacity : ℕ) : Type 0 where
  pub rising : AllPairs IsBefore tasks
  pub places : length tasks + idle ≤ depth
  pub few : depth < 2 ^ 16
  pub tasks_fit : depth ≤ tasks_capacity
  pub idle_fit : depth ≤ idle_capacity

-- each task waits at this unit
abbrev pub AllWait : UnitState → List Task → Type 0
AllWait u tasks = All (IsWaiting u) tasks
