use Rattle.std.proofs.Common.{refl, arith}
use Rattle.unit_law.specs.Log.{tally}
use Rattle.unit_log.proofs.log.UnitLog.new.Goals as goal

-- an empty log says nothing of a ticket, and there are no counts
pub invariant_of-result : goal.invariant_of-result
unfolding tally
invariant_of-result c = rw (c.new.ensures.items, c.new-2.ensures.items) (record {
  rising = λ i j lt in_range. absurd (omega arith);
  agrees = λ t. refl;
  few = omega arith;
  within = omega arith;
  entries_fit = omega arith;
  counts_fit = omega arith;
})
