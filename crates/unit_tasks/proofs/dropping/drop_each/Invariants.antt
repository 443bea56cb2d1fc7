use Rattle.std.proofs.Common.{◌≡◌, ◌+◌, ◌≤◌, length, fold, take, drop}
use Rattle.unit_tasks.specs.Resets.{core_drops, drop_entries}
use Rattle.unit_tasks.proofs.dropping.drop_each.Given as goal

abbrev pub invariant-loop-task : goal.invariant-loop-task
invariant-loop-task l = record {
  so_far : l.core ≡ fold core_drops l.initial.core (take l.task-index l.tasks);
  room : length l.core.log.entries + drop_entries (drop l.task-index l.tasks) ≤ l.core.log.room;
}
