use Rattle.std.proofs.Common.{◌≡◌, None, replicate}
use Rattle.driver_desk.proofs.desk.rooms.Given as goal

abbrev pub invariant-loop : goal.invariant-loop
invariant-loop l = l.rooms.items ≡ replicate l.counter None
