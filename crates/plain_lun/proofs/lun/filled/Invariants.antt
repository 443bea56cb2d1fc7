use Rattle.std.proofs.Common.{◌≡◌}
use Rattle.plain_lun.specs.Unit.{filled_disk}
use Rattle.plain_lun.proofs.lun.filled.Given as goal

abbrev pub invariant-loop-k : goal.invariant-loop-k
invariant-loop-k l = l.disk.items ≡ filled_disk l.fn.pattern l.k
