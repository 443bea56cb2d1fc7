-- What drops and resets of a unit log, and what a reset makes of the places of its tasks.
use Rattle.std.specs.Prelude.{ℕ, ◌+◌, nat_le, not, Bool, true, false, List, [], ◌∷◌, ◌++◌, length, count_by}
use Rattle.plain_lun.specs.Losing.{dropped, cleared}
use Rattle.unit_law.specs.declared.entry.LogEntry.TheVariants.{Drop, Clear}
use Rattle.unit_core.specs.declared.Core.{Core}
use Rattle.target_law.specs.Session.{Task}
use Rattle.target_law.specs.Target.{unit_reset}
use Rattle.unit_tasks.specs.declared.queued.QueuedUnit.{QueuedUnit}
use Rattle.unit_tasks.specs.Units.{unit_of, holding}

-- a task whose drop logs an entry: any that asks for no sense
abbrev pub logs_drop : Task → Bool
logs_drop k = not k.senses

-- how many entries the drops of these tasks log, and a reset of a unit with these tasks
abbrev pub drop_entries : List Task → ℕ
drop_entries tasks = count_by logs_drop tasks

abbrev pub reset_entries : List Task → ℕ
reset_entries tasks = drop_entries tasks + 1

-- the log has room for the entries of a reset
abbrev pub can_reset : QueuedUnit → Bool
can_reset q = nat_le (length q.core.log.entries + reset_entries q.tasks.tasks) q.core.log.room

-- a reset, after which the place of each task is idle; where the log has no room for its entries nothing changes
abbrev pub reset_by : Bool → QueuedUnit → QueuedUnit
reset_by true q = holding q (unit_reset (unit_of q)) (q.tasks.idle + length q.tasks.tasks)
reset_by false q = q

-- what all tasks of the unit share, after the drop of one
abbrev pub core_drops_by : Bool → Core → Task → Core
core_drops_by true c k = c
core_drops_by false c k = record {
  lun = dropped c.lun k.cdb k.received;
  log = record { entries = c.log.entries ++ Drop k.ticket k.high ∷ []; room = c.log.room };
}

abbrev pub core_drops : Core → Task → Core
core_drops c k = core_drops_by k.senses c k

-- and after a reset has dropped all tasks
abbrev pub core_cleared : Core → Core
core_cleared c = record { lun = cleared c.lun; log = record { entries = c.log.entries ++ Clear ∷ []; room = c.log.room } }
