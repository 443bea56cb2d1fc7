use Rattle.seat_law.proofs.ListWorlds.{leads_once, longer_goes}
use Rattle.seat_law.proofs.laws.list_has_one_world.Goals as goal

pub returns : goal.returns
returns c = record { once = leads_once; goes_on = longer_goes }
