use Rattle.scripts_list.proofs.OneListing as law
use Rattle.scripts_list.proofs.laws.one_listing.Goals as goal

pub returns : goal.returns
returns c = law.one_listing
