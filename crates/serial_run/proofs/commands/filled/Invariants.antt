use Rattle.std.proofs.Common.{◌≡◌}
use Rattle.serial_run.specs.Generated.{filled}
use Rattle.serial_run.proofs.commands.filled.Given as goal

abbrev pub invariant-loop-k : goal.invariant-loop-k
invariant-loop-k l = l.bytes.items ≡ filled l.number l.k
