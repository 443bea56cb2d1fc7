use Rattle.word_owners.proofs.FreePlaces.{places_free}
use Rattle.word_owners.proofs.space_laws.places_are_free.Goals as goal

pub returns : goal.returns
returns c = places_free
