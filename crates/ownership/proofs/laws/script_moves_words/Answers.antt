use Rattle.ownership.proofs.Words as law
use Rattle.ownership.proofs.laws.script_moves_words.Goals as goal

pub returns : goal.returns
returns g c = record { loads = law.loads_word g.B.Bus.moves; stores = law.stores_word g.B.Bus.moves }
