use Rattle.std.proofs.Common.{◌≡◌, ◌-◌, ◌||◌}
use Rattle.host_map.specs.declared.TheConstants.{START_RING}
use Rattle.job_rings.specs.Rings.{IsSlot}
use Rattle.driver_desk.proofs.Slots.{any_from}
use Rattle.driver_desk.proofs.desk.Desk.waits.Given as goal

abbrev pub invariant-loop : goal.invariant-loop
invariant-loop l =
    IsSlot START_RING l.slot × ((l.found || any_from l.words l.block (l.count - l.counter) l.slot) ≡ any_from l.words l.block l.count l.first)
