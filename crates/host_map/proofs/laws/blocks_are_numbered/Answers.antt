use Rattle.host_map.proofs.MapLaws.{numbers_blocks, places_fit}
use Rattle.host_map.proofs.laws.blocks_are_numbered.Goals as goal

pub returns : goal.returns
returns c = record { numbers = numbers_blocks; fit = places_fit }
