use Rattle.std.proofs.Common.{◌-◌}
use Rattle.target_bus.proofs.rooms.+reserve_from.Given as goal

abbrev pub decreases-reserve_from : goal.decreases-reserve_from
decreases-reserve_from l = l.end - l.place
