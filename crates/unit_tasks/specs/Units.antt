-- A logical unit that holds its tasks, as the state of a target sees it.
use Rattle.std.specs.Prelude.{ℕ}
use Rattle.target_law.specs.Target.{LogicalUnit}
use Rattle.unit_tasks.specs.declared.queued.QueuedUnit.{QueuedUnit}

abbrev pub unit_of : QueuedUnit → LogicalUnit
unit_of q = record { rig = q.rig; plain = q.core.lun; log = q.core.log.entries; tasks = q.tasks.tasks }

-- the unit in this state, with so many idle places; the room of its log and its depth stay
abbrev pub holding : QueuedUnit → LogicalUnit → (idle : ℕ) → QueuedUnit
holding q u idle = record {
  rig = u.rig;
  core = record { lun = u.plain; log = record { entries = u.log; room = q.core.log.room } };
  tasks = record { tasks = u.tasks; idle = idle; depth = q.tasks.depth };
}
