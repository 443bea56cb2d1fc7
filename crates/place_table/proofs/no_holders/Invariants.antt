use Rattle.std.proofs.Common.{◌≡◌, None, replicate}
use Rattle.place_table.proofs.no_holders.Given as goal

abbrev pub invariant-loop : goal.invariant-loop
invariant-loop l = l.held.items ≡ replicate l.counter None
