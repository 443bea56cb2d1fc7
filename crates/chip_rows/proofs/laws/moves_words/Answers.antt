use Rattle.chip_rows.proofs.Words as law
use Rattle.chip_rows.proofs.laws.moves_words.Goals as goal

pub returns : goal.returns
returns g c = record { bytes = law.moves_words; finds = law.finds_words; load = law.loads_words; store = law.stores_words }
