use Rattle.std.proofs.Common.{◌∙◌}
use Rattle.scsi_target.proofs.DeviceCalls.{working_unit, working_none, can_of}
use Rattle.scsi_target.proofs.Moves.{device_moved, view_moved, device_rogue, view_rogue}
use Rattle.scsi_target.proofs.Parted.{device_lies}
use Rattle.target_law.proofs.Tags.{tags_stay}
use Rattle.scsi_target.specs.declared.connection_state.ConnectionState.TheVariants as held
use Rattle.scsi_target.proofs.DistinctTags.{seen, told_where}
use Rattle.scsi_target.proofs.device.Device.act.Goals as goal
use Rattle.scsi_target.proofs.device.Device.act.Goals.{in-TaskConnected-1, in-BusFree-1}

pub move_on-requires-clause-lawful : goal.move_on-requires-clause-lawful
move_on-requires-clause-lawful c =
    let u = working_unit _ _ _ _ c.in-TaskConnected.connection _ c.in-Some.unit _ c.self.invariant.device c.in-TaskConnected.is c.lun.ensures c.index_mut.ensures.value c.in-Some.is in
    can_of _ _ _ c.in-TaskConnected.connection c.in-Some.unit _ c.self.view_is c.in-TaskConnected.is u.0 c.requires

pub move_on-requires-clause-log : goal.move_on-requires-clause-log
move_on-requires-clause-log c =
    let u = working_unit _ _ _ _ c.in-TaskConnected.connection _ c.in-Some.unit _ c.self.invariant.device c.in-TaskConnected.is c.lun.ensures c.index_mut.ensures.value c.in-Some.is in
    (c.self.invariant.device.slots_are _ c.in-Some.unit u.0).log

pub invariant_of-self : goal.invariant_of-self
invariant_of-self c =
    let u = working_unit _ _ _ _ c.in-TaskConnected.connection _ c.in-Some.unit _ c.self.invariant.device c.in-TaskConnected.is c.lun.ensures c.index_mut.ensures.value c.in-Some.is in
    let old = seen _ _ _ c.self.view_is c.self.invariant.tags in
    record {
      device = device_moved _ _ _ _ c.in-TaskConnected.connection c.in-Some.unit c.args.m _ c.move_on.new.unit c.move_on.new.connection c.self.invariant.device c.in-TaskConnected.is c.lun.ensures u.0 u.1 c.move_on.ensures.unit c.move_on.ensures.connection c.move_on.ensures.sound c.move_on.ensures.others;
      tags = told_where _ _ _ (held.TaskConnected c.move_on.new.connection) (view_moved _ _ _ c.in-TaskConnected.connection c.in-Some.unit c.args.m _ c.move_on.new.unit c.move_on.new.connection c.self.view_is c.in-TaskConnected.is c.lun.ensures u.0 (device_lies _ _ _ _ c.self.invariant.device) c.move_on.ensures.unit c.move_on.ensures.connection) old (tags_stay.acted c.args.m _ old);
    }

pub invariant_of-self-in-Rogue-2 : goal.invariant_of-self-in-Rogue-2
invariant_of-self-in-Rogue-2 c =
    let old = seen _ _ _ c.self.view_is c.self.invariant.tags in
    record {
      device = device_rogue _ _ _ _ _ _ c.in-RogueConnected.named _ c.self.invariant.device c.in-RogueConnected.is c.rogue_on.ensures;
      tags = told_where _ _ _ c.rogue_on.result (view_rogue _ _ _ c.rogue_on.result _ c.in-RogueConnected.named c.args.m c.in-Rogue.word c.self.view_is (device_lies _ _ _ _ c.self.invariant.device) c.in-RogueConnected.is c.in-Rogue.is c.rogue_on.ensures) old (tags_stay.acted c.args.m _ old);
    }

pub returns-in-Some : goal.returns-in-Some
returns-in-Some c =
    let u = working_unit _ _ _ _ c.in-TaskConnected.connection _ c.in-Some.unit _ c.self.invariant.device c.in-TaskConnected.is c.lun.ensures c.index_mut.ensures.value c.in-Some.is in
    view_moved _ _ _ c.in-TaskConnected.connection c.in-Some.unit c.args.m _ c.move_on.new.unit c.move_on.new.connection c.self.view_is c.in-TaskConnected.is c.lun.ensures u.0 (device_lies _ _ _ _ c.self.invariant.device) c.move_on.ensures.unit c.move_on.ensures.connection

pub returns-in_default-index_mut : goal.returns-in_default-index_mut
returns-in_default-index_mut c = absurd (working_none _ _ _ _ c.in-TaskConnected.connection _ _ c.self.invariant.device c.in-TaskConnected.is c.lun.ensures c.index_mut.ensures.value c.in_default-index_mut.is)

pub returns-in-Rogue : goal.returns-in-Rogue
returns-in-Rogue c =
    let v = view_rogue _ _ _ c.rogue_on.result _ c.in-RogueConnected.named c.args.m c.in-Rogue.word c.self.view_is (device_lies _ _ _ _ c.self.invariant.device) c.in-RogueConnected.is c.in-Rogue.is c.rogue_on.ensures in
    elim c.match-self-rogue_on.branch [
      | in-TaskConnected-1 w ↦ w.self-is ∙ v
      | in-BusFree-1 w ↦ w.self-is ∙ v
    ]
