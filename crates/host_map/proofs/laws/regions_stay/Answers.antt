use Rattle.host_map.proofs.WriteLaws.{leaves_others, words_are_in, kept_on}
use Rattle.host_map.proofs.laws.regions_stay.Goals as goal

pub returns : goal.returns
returns c = record { others = leaves_others; word = words_are_in; on = kept_on }
