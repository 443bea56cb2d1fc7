use Rattle.serial_run.proofs.Rounds.{IsWithinRound}
use Rattle.serial_run.proofs.driving.round.Given as goal

abbrev pub invariant-loop-caller : goal.invariant-loop-caller
invariant-loop-caller l = IsWithinRound l.word l.initial.bench l.caller l.bench
