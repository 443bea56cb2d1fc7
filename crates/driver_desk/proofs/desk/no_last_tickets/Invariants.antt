use Rattle.std.proofs.Common.{◌≡◌, None, replicate}
use Rattle.driver_desk.proofs.desk.no_last_tickets.Given as goal

abbrev pub invariant-loop : goal.invariant-loop
invariant-loop l = l.lasts.items ≡ replicate l.counter None
