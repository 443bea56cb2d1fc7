use Rattle.target_law.proofs.ResetRooms.{reset-lies}
use Rattle.target_law.proofs.laws.resets_have_room.Goals as goal

pub returns : goal.returns
returns c = reset-lies
