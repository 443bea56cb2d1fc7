use Rattle.host_map.proofs.MapLaws.{lie_in_regions, regions_apart, places_apart}
use Rattle.host_map.proofs.laws.places_lie_apart.Goals as goal

pub returns : goal.returns
returns c = record { lie = lie_in_regions; regions = regions_apart; places = places_apart }
