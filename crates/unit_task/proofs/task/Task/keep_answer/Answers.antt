use Rattle.std.proofs.Common.{arith, ◌≡◌, length}
use Rattle.plain_lun.proofs.Laws.{wants-most}
use Rattle.unit_task.proofs.task.Task.keep_answer.Goals as goal

pub perform-answer-requires-clause-room : goal.perform-answer-requires-clause-room
perform-answer-requires-clause-room c = λ e.
    let w = wants-most c.args.unit.now c.self.inside.cdb in
    let v = c.deref_mut.ensures.value in
    let n : length c.deref_mut.result.now ≡ 65536 = rw v c.self.invariant.size in
    let s = rw (← c.self.view_is) at c.requires.small in
    omega arith
