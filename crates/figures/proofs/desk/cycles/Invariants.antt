use Rattle.std.proofs.Common.{◌≡◌, length}
use Rattle.figures.proofs.desk.cycles.Given as goal

abbrev pub invariant-loop : goal.invariant-loop
invariant-loop l = length l.words ≡ 0x400000
