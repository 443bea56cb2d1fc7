use Rattle.std.proofs.Common.{◌≡◌, ◌+◌, ◌≤◌, [], length, true, ◌∙◌, arith}
use Rattle.std.specs.List.{fold}
use Rattle.std.proofs.lemmas.Bool.Decides.{nat_tests}
use Rattle.unit_core.specs.declared.Core.{Core}
use Rattle.target_law.specs.Target.{drops, unit_reset}
use Rattle.unit_tasks.specs.declared.queued.QueuedUnit.{QueuedUnit}
use Rattle.unit_tasks.specs.Queue.{Queue}
use Rattle.unit_tasks.specs.Units.{unit_of, holding}
use Rattle.unit_tasks.specs.Resets.{core_drops, core_cleared, drop_entries, can_reset}
use Rattle.target_law.proofs.Rigs.{rig-drops}
use Rattle.unit_tasks.proofs.Drops.{logged, core_of, fold-core_drops}
use Rattle.unit_tasks.proofs.queued.QueuedUnit.reset.Goals as goal

-- the unit is cleared after the drops of all its tasks
reset-is : (q : QueuedUnit) (core after : Core) (tasks : Queue)
    → core ≡ fold core_drops q.core q.tasks.tasks
    → after ≡ core_cleared core
    → tasks ≡ record { tasks = []; idle = q.tasks.idle + length q.tasks.tasks; depth = q.tasks.depth }
    → ◌≡◌ {A = QueuedUnit} (record { rig = q.rig; core = after; tasks = tasks }) (holding q (unit_reset (unit_of q)) (q.tasks.idle + length q.tasks.tasks))
unfolding unit_reset
reset-is q core after tasks dropped by_clear by_tasks =
    let is : core ≡ core_of (fold drops (unit_of q) q.tasks.tasks) q.core.log.room = dropped ∙ fold-core_drops q.tasks.tasks (unit_of q) q.core.log.room in
    let rig : (fold drops (unit_of q) q.tasks.tasks).rig ≡ q.rig = rig-drops q.tasks.tasks (unit_of q) in
    rw (by_clear, by_tasks, is, rig)

-- what a reset asks of the log's room
room : (q : QueuedUnit) → can_reset q ≡ true → length q.core.log.entries + (drop_entries q.tasks.tasks + 1) ≤ q.core.log.room
room q can = grind (arith, nat_tests)

pub clear-requires-2 : goal.clear-requires-2
clear-requires-2 c =
    let q = c.args.self.now in
    let fits : length q.core.log.entries + (drop_entries q.tasks.tasks + 1) ≤ q.core.log.room = room q (cc (c.can_reset.ensures, c.if-not-can_reset.false)) in
    let is : c.drop_each.new.core ≡ fold core_drops q.core q.tasks.tasks = rw c.tasks.ensures at c.drop_each.ensures in
    let log = logged q.tasks.tasks q.core in
    rw is (omega (arith, log.entries, log.room, fits))

pub returns : goal.returns
returns c =
    let q = c.args.self.now in
    let can : can_reset q ≡ true = cc (c.can_reset.ensures, c.if-not-can_reset.false) in
    let dropped : c.drop_each.new.core ≡ fold core_drops q.core q.tasks.tasks = rw c.tasks.ensures at c.drop_each.ensures in
    rw can (reset-is q c.drop_each.new.core c.clear-2.new.core c.clear.new.self dropped c.clear-2.ensures c.clear.ensures)
