use Rattle.unit_tasks.specs.Resets.{can_reset}
use Rattle.scsi_target.specs.Slots.{all_can_reset}
use Rattle.scsi_target.specs.Resettings.{with_task}
use Rattle.scsi_target.proofs.Resets.{with_lies, with_then, with_else}
use Rattle.scsi_target.proofs.resetting.can_reset_with.Goals as goal

pub returns-then-others : goal.returns-then-others
returns-then-others c =
    let at = c.requires.linked in
    with_then (all_can_reset c.args.units.now.items) (can_reset (with_task at.0 c.args.connection.now.task)) c.can_reset_all-others.result c.can_reset_at-here.result _ c.can_reset_all-others.ensures c.if-others.true (c.can_reset_at-here.ensures at.0 at.1)
    (with_lies c.args.units.now.items c.args.connection.now at.0 at.1)

pub returns-else-others : goal.returns-else-others
returns-else-others c =
    let at = c.requires.linked in
    with_else (all_can_reset c.args.units.now.items) (can_reset (with_task at.0 c.args.connection.now.task)) c.can_reset_all-others.result _ c.can_reset_all-others.ensures c.if-others.false
    (with_lies c.args.units.now.items c.args.connection.now at.0 at.1)
