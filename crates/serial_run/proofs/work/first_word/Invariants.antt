use Rattle.std.proofs.Common.{◌≡◌}
use Rattle.serial_run.specs.Generated.{word_for}
use Rattle.serial_run.proofs.work.first_word.Given as goal

abbrev pub invariant-loop : goal.invariant-loop
invariant-loop l = l.word ≡ word_for l.seed l.counter
