use Rattle.word_owners.proofs.Callers.{callers_kept}
use Rattle.word_owners.proofs.space_laws.callers_are_kept.Goals as goal

abbrev pub returns : goal.returns
returns c = callers_kept
