use Rattle.std.proofs.Common.{◌∙◌, sym, ap, nat_lt, ℕ}
use Rattle.unit_tasks.specs.Resets.{reset_entries}
use Rattle.scsi_target.proofs.Resets.{room_of_sense, room_of_drop}
use Rattle.scsi_target.proofs.resetting.has_room_with.Goals as goal

pub returns-then-senses : goal.returns-then-senses
returns-then-senses c = c.can_reset.ensures ∙ room_of_sense c.args.unit.now c.args.task.now (sym c.senses.ensures ∙ c.if-senses.true)

pub returns-else-senses : goal.returns-else-senses
returns-else-senses c =
    ap (λ (n : ℕ). nat_lt n c.spare.result) c.entries_of_reset.ensures ∙ ap (λ (n : ℕ). nat_lt (reset_entries c.args.unit.now.tasks.tasks) n) c.spare.ensures
    ∙ room_of_drop c.args.unit.now c.args.task.now (sym c.senses.ensures ∙ c.if-senses.false)
