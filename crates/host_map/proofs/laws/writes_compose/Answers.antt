use Rattle.host_map.proofs.WriteLaws.{words_are_within, larger_ranges, one_after_another, nothing_written}
use Rattle.host_map.proofs.laws.writes_compose.Goals as goal

pub returns : goal.returns
returns c = record { word = words_are_within; larger = larger_ranges; next = one_after_another; nothing = nothing_written }
