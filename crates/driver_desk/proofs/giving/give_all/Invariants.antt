use Rattle.driver_desk.proofs.GivenBack.{GivenSoFar}
use Rattle.driver_desk.proofs.giving.give_all.Given as goal

abbrev pub invariant-loop-i : goal.invariant-loop-i
invariant-loop-i l = GivenSoFar l.initial.region l.region l.pieces l.i
