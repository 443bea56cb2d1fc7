use Rattle.scsi_target.proofs.DeviceCalls.{working_unit, to_choose, named_in, may_in}
use Rattle.scsi_target.proofs.device.Device.choose.Goals as goal

pub returns-in-Some-clause-named : goal.returns-in-Some-clause-named
returns-in-Some-clause-named c =
    let u = working_unit _ _ _ _ c.in-TaskConnected.connection _ c.in-Some.unit _ c.self.invariant.device c.in-TaskConnected.is c.lun.ensures c.index.ensures c.in-Some.is in
    named_in _ _ _ c.in-TaskConnected.connection c.in-Some.unit _ _ c.self.view_is c.in-TaskConnected.is u.0 c.choose.ensures.named

pub returns-in-Some-clause-lawful : goal.returns-in-Some-clause-lawful
returns-in-Some-clause-lawful c =
    let u = working_unit _ _ _ _ c.in-TaskConnected.connection _ c.in-Some.unit _ c.self.invariant.device c.in-TaskConnected.is c.lun.ensures c.index.ensures c.in-Some.is in
    may_in _ _ _ c.in-TaskConnected.connection c.in-Some.unit _ c.self.view_is c.in-TaskConnected.is u.0 (to_choose _ _ _ c.in-TaskConnected.connection c.self.view_is c.in-TaskConnected.is c.requires) c.choose.ensures.lawful
