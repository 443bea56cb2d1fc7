use Rattle.std.proofs.Common.{◌≡◌, ◌≤◌, vec_len, vec_capacity}
use Rattle.unit_tasks.proofs.task_list.TaskList.open.Given as goal

abbrev pub invariant-loop : goal.invariant-loop
invariant-loop l = record { len : vec_len l.idle ≡ l.counter; capacity : l.depth ≤ vec_capacity l.idle }
