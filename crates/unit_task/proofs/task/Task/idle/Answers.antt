use Rattle.std.proofs.Common.{arith}
use Rattle.unit_task.proofs.task.Task.idle.Goals as goal

pub invariant_of-result : goal.invariant_of-result
invariant_of-result c = record {
  size = let h = c.in_ok-vec.ensures.len in let o = c.in_ok-vec.field-0.ok in omega arith;
  received = omega arith;
  sent = omega arith;
  sense = λ e. cc;
}
