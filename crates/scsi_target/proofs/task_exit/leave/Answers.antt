use Rattle.std.proofs.Common.{◌∙◌, ap, subst, sym}
use Rattle.target_law.specs.Session.{Task}
use Rattle.target_law.specs.Sound.{IsSoundTask}
use Rattle.target_law.specs.Bytes.{away}
use Rattle.target_law.specs.Target.{by_tag}
use Rattle.scsi_target.proofs.TaskExits.{made_left}
use Rattle.scsi_target.proofs.task_exit.leave.Goals as goal

pub returns : goal.returns
returns c =
    let list = c.args.unit.now.tasks in
    made_left c.args.unit.now c.args.connection c.insert.new.self c.requires.slot c.requires.connected
    (c.insert.ensures.after ∙ ap (λ (k : Task). record { tasks = by_tag (away k) list.tasks; idle = list.idle; depth = list.depth }) c.into_task.ensures) c.insert.ensures.len
    (c.insert.ensures.waiting c.args.unit.now.core.lun (subst (IsSoundTask c.args.unit.now.core.lun) (sym c.into_task.ensures) c.requires.connected.sound.task) c.requires.slot.waiting)
