use Rattle.place_table.specs.Places.{AreWhole}
use Rattle.place_table.proofs.free_groups.Given as goal

abbrev pub invariant-loop : goal.invariant-loop
invariant-loop l = AreWhole l.counter l.free.items
