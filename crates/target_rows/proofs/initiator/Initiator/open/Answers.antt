use Rattle.std.proofs.Common.{ap}
use Rattle.target_law.specs.Devices.{DeviceState}
use Rattle.target_rows.proofs.OneUnit.{unit-there, held-opened, opened-target, opened-room}
use Rattle.target_rows.proofs.initiator.Initiator.open.Goals as goal

pub reserve-requires : goal.reserve-requires
reserve-requires c =
    unit-there c.in_ok-device.device.target.units c.args.unit.now
    (held-opened c.in_ok-device.device c.args.unit.now c.requires (ap (λ (d : DeviceState). d.target) c.in_ok-device.ensures))

pub returns-clause-target : goal.returns-clause-target
returns-clause-target c = opened-target c.args.unit.now c.args.room c.in_ok-device.device c.reserve.new.self c.in_ok-device.ensures c.in_ok-reserve.ensures.ok

pub invariant_of-result : goal.invariant_of-result
invariant_of-result c =
    held-opened c.reserve.new.self c.args.unit.now c.requires (opened-target c.args.unit.now c.args.room c.in_ok-device.device c.reserve.new.self c.in_ok-device.ensures c.in_ok-reserve.ensures.ok)

pub returns-clause-room : goal.returns-clause-room
returns-clause-room c = opened-room c.args.unit.now c.args.room c.in_ok-device.device c.reserve.new.self c.requires.lun c.in_ok-device.ensures c.in_ok-reserve.ensures.ok
