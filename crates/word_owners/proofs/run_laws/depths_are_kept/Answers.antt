use Rattle.word_owners.proofs.Worlds.{depths_are_kept}
use Rattle.word_owners.proofs.run_laws.depths_are_kept.Goals as goal

abbrev pub returns : goal.returns
returns c = depths_are_kept
