use Rattle.std.proofs.Common.{rules, ℕ, ◌≡◌, sym, ◌+◌, ◌<◌, leb, length, List, vec_len, ap, ◌∙◌, arith}
use Rattle.std.specs.List.{insert}
use Rattle.std.proofs.lemmas.List.Sorted.{IsPartitionPoint-from_clause}
use Rattle.std.proofs.lemmas.List.Edits.{length-insert}
use Rattle.std.proofs.lemmas.Grind.{common_steps}
use Rattle.target_law.specs.Session.{Task}
use Rattle.target_law.specs.Target.{by_tag}
use Rattle.target_law.specs.Sound.{IsWaiting}
use Rattle.unit_tasks.specs.Queue.{Queue}
use Rattle.unit_tasks.proofs.Places.{IsPlace, parted, is_place, by_tag-insert, rising-insert, all-insert}
use Rattle.unit_tasks.proofs.task_list.TaskList.insert.Goals as goal

abbrev queue : List Task → ℕ → ℕ → Queue
queue tasks idle depth = record { tasks = tasks; idle = idle; depth = depth }

-- the search ends at the place of the tag
place : (c : goal.After-unwrap) → IsPlace c.leave.new.self.tag c.self.inside.tasks.items c.partition_point-at.result
place c =
    let t = c.tag-tag.result in
    let rising = c.self.invariant.rising in
    let found = IsPartitionPoint-from_clause (λ (y : Task). leb y.tag t) c.deref.result.now c.partition_point-at.result c.partition_point-at.ensures.partitioned (rw c.deref.ensures.value (parted t c.self.inside.tasks.items rising)) (λ a r f called. search rules) in
    rw (← c.tag-tag.ensures) (is_place t c.self.inside.tasks.items c.partition_point-at.result (rw c.deref.ensures.value at c.partition_point-at.ensures.bound) (rw c.deref.ensures.value at found))

items : (c : goal.After-unwrap) → c.insert.new.self.items ≡ insert c.self.inside.tasks.items c.partition_point-at.result c.leave.new.self
items c = grind (arith, common_steps)

places : (c : goal.After-unwrap) → length c.self.inside.tasks.items + vec_len c.self.inside.idle < c.self.inside.depth
places c = rw (← c.self.view_is) at c.requires

pub invariant_of-self : goal.invariant_of-self
invariant_of-self c = record {
  rising = rw (items c) (rising-insert c.leave.new.self c.self.inside.tasks.items c.partition_point-at.result (place c) c.self.invariant.rising);
  places = rw (items c) (omega (arith, places c, length-insert c.self.inside.tasks.items c.partition_point-at.result c.leave.new.self (place c).in_range));
  few = c.self.invariant.few;
  tasks_fit = omega (arith, c.insert.ensures.capacity, c.self.invariant.tasks_fit);
  idle_fit = omega arith;
}

pub returns-clause-after : goal.returns-clause-after
returns-clause-after c =
    let sorted : c.insert.new.self.items ≡ by_tag c.leave.new.self c.self.inside.tasks.items = items c ∙ sym (by_tag-insert c.leave.new.self c.self.inside.tasks.items c.partition_point-at.result (place c)) in
    rw (← c.self.view_is) (ap (λ (ts : List Task). queue ts (vec_len c.self.inside.idle) c.self.inside.depth) (sorted ∙ ap (λ k. by_tag k c.self.inside.tasks.items) c.leave.ensures.task))

pub returns-clause-waiting : goal.returns-clause-waiting
returns-clause-waiting c u sound all = rw (items c) (all-insert (IsWaiting u) c.leave.new.self c.self.inside.tasks.items c.partition_point-at.result (c.leave.ensures.waits u sound) (rw (← c.self.view_is) at all))

pub returns-clause-len : goal.returns-clause-len
returns-clause-len c = rw (items c, ← c.self.view_is) (length-insert c.self.inside.tasks.items c.partition_point-at.result c.leave.new.self (place c).in_range)
