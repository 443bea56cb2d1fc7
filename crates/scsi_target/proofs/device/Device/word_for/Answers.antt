use Rattle.scsi_target.proofs.DeviceCalls.{working_unit, working_none, can_of, named_in}
use Rattle.scsi_target.proofs.device.Device.word_for.Goals as goal

pub word_for-requires-clause-lawful : goal.word_for-requires-clause-lawful
word_for-requires-clause-lawful c =
    let u = working_unit _ _ _ _ c.in-TaskConnected.connection _ c.in-Some.unit _ c.self.invariant.device c.in-TaskConnected.is c.lun.ensures c.index.ensures c.in-Some.is in
    can_of _ _ _ c.in-TaskConnected.connection c.in-Some.unit _ c.self.view_is c.in-TaskConnected.is u.0 c.requires

pub unreachable-requires : goal.unreachable-requires
unreachable-requires c = working_none _ _ _ _ c.in-TaskConnected.connection _ _ c.self.invariant.device c.in-TaskConnected.is c.lun.ensures c.index.ensures c.in-None.is

pub returns-in-Some : goal.returns-in-Some
returns-in-Some c =
    let u = working_unit _ _ _ _ c.in-TaskConnected.connection _ c.in-Some.unit _ c.self.invariant.device c.in-TaskConnected.is c.lun.ensures c.index.ensures c.in-Some.is in
    named_in _ _ _ c.in-TaskConnected.connection c.in-Some.unit _ _ c.self.view_is c.in-TaskConnected.is u.0 c.word_for.ensures
