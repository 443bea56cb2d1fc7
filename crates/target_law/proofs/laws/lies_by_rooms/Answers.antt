use Rattle.target_law.proofs.Rooms.{lie_within-each, lie_within-all}
use Rattle.target_law.proofs.laws.lies_by_rooms.Goals as goal

pub returns : goal.returns
returns c = record {
  each = λ d units. lie_within-each units d.rooms;
  all = λ d units. lie_within-all units d.rooms;
}
