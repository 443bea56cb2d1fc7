use Rattle.word_owners.proofs.NeverFails.{tests_never_fail}
use Rattle.word_owners.proofs.run_laws.tests_never_fail.Goals as goal

abbrev pub returns : goal.returns
returns c = tests_never_fail
