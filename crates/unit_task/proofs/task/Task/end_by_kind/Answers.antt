use Rattle.plain_lun.proofs.Laws.{wants-most}
use Rattle.unit_task.proofs.task.Task.end_by_kind.Goals as goal

pub perform-requires-clause-room : goal.perform-requires-clause-room
perform-requires-clause-room c = λ e. wants-most c.args.unit.now _
