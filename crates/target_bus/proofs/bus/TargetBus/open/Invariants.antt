use Rattle.std.proofs.Common.{◌≡◌}
use Rattle.target_bus.proofs.Openings.{devices_below}
use Rattle.target_bus.proofs.bus.TargetBus.open.Given as goal

abbrev pub invariant-loop-id : goal.invariant-loop-id
invariant-loop-id l = l.devices.items ≡ devices_below l.rig.units l.id
