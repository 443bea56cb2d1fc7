use Rattle.std.proofs.Common.{refl, false}
use Rattle.rig_types.specs.declared.rig.Pattern.TheVariants.{Count}
use Rattle.rig_types.specs.declared.rig.Unit.{Unit as RigUnit}
use Rattle.one_target.proofs.Openings.{opened-has, roomy, opened-held, the_unit, is-opened}
use Rattle.one_target.proofs.bus.OneBus.open.Goals as goal

abbrev unit : RigUnit
unit = record { target = 0; lun = 0; blocks = 64; pattern = Count; depth = 1; disconnects = 0; refusals = 0; absent = false; rogue = false }

pub reserve-requires : goal.reserve-requires
reserve-requires c = opened-has unit refl c.in_ok-device.device c.in_ok-device.ensures

pub invariant_of-result : goal.invariant_of-result
invariant_of-result c =
    opened-held unit refl refl c.reserve.new.self (roomy unit refl c.in_ok-device.device c.reserve.new.self c.in_ok-device.ensures c.in_ok-reserve.ensures.ok)

pub returns-clause-opened : goal.returns-clause-opened
returns-clause-opened c =
    is-opened unit the_unit c.reserve.new.self (roomy unit refl c.in_ok-device.device c.reserve.new.self c.in_ok-device.ensures c.in_ok-reserve.ensures.ok)
