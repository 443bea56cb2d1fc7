use Rattle.std.proofs.Common.{false, Some, ◌<◌, ◌∙◌, arith, subst, length}
use Rattle.scsi_target.proofs.Places.{there_in, read_unit, is_unit, not_none, in_range}
use Rattle.scsi_target.proofs.DeviceCalls.{free_link}
use Rattle.scsi_target.proofs.Reselections.{few, device_named, view_named, device_back, view_back}
use Rattle.target_law.specs.declared.task_phase.ReselectByte.TheVariants as part
use Rattle.target_law.specs.declared.rogue_phase.RoguePhase.TheVariants.{Reselection}
use Rattle.target_law.proofs.Tags.{tags_stay}
use Rattle.scsi_target.specs.declared.connection_state.ConnectionState.TheVariants as held
use Rattle.scsi_target.proofs.DistinctTags.{seen, told}
use Rattle.scsi_target.proofs.device.Device.reselect.Goals as goal
use Rattle.scsi_target.proofs.device.Device.reselect.Goals.{in-TaskConnected-2, in-BusFree-2}

pub invariant_of-self : goal.invariant_of-self
invariant_of-self c =
    let t = there_in _ _ _ c.self.view_is c.args.lun _ c.requires.candidate in
    record {
      device = device_named _ _ _ _ c.args.lun c.args.tag t.0 _ c.self.invariant.device (free_link _ _ _ c.self.view_is c.requires.free) c.if-self.true t.1;
      tags = told _ _ (held.RogueConnected (Reselection part.Identify false) (Some (record { lun = c.args.lun; tag = c.args.tag }))) (view_named _ _ c.self.inside.link c.args.lun c.args.n c.args.tag t.0 _ c.self.view_is t.1 (c.self.invariant.device.slots_are _ t.0 t.1).rogue c.if-self.true) (tags_stay.reselected c.args.lun c.args.n c.args.tag _ (seen _ _ _ c.self.view_is c.self.invariant.tags));
    }

pub returns-then-self : goal.returns-then-self
returns-then-self c =
    let t = there_in _ _ _ c.self.view_is c.args.lun _ c.requires.candidate in
    view_named _ _ c.self.inside.link c.args.lun c.args.n c.args.tag t.0 _ c.self.view_is t.1 (c.self.invariant.device.slots_are _ t.0 t.1).rogue c.if-self.true

pub index_mut-requires : goal.index_mut-requires
index_mut-requires c =
    let t = there_in _ _ _ c.self.view_is c.args.lun _ c.requires.candidate in
    in_range _ _ _ _ c.args.lun t.0 c.self.invariant.device t.1

pub take_out-task-requires : goal.take_out-task-requires
take_out-task-requires c =
    let t = there_in _ _ _ c.self.view_is c.args.lun _ c.requires.candidate in
    let h = few c.args.n t.0 _ (c.self.invariant.device.slots_are _ t.0 t.1).rogue c.if-self.false t.2 in
    subst (λ q. c.args.n < length q.tasks.tasks) (is_unit _ c.args.lun t.0 _ _ t.1 c.index_mut.ensures.value c.in-Some.is) h

pub reselect-requires : goal.reselect-requires
reselect-requires c =
    let t = there_in _ _ _ c.self.view_is c.args.lun _ c.requires.candidate in
    let l = in_range _ _ _ _ c.args.lun t.0 c.self.invariant.device t.1 in
    let k = c.self.invariant.device.counted in
    omega arith

pub invariant_of-self-in-Some-2 : goal.invariant_of-self-in-Some-2
invariant_of-self-in-Some-2 c =
    let p = read_unit _ _ _ c.self.view_is c.args.lun _ c.in-Some.unit _ c.requires.candidate c.index_mut.ensures.value c.in-Some.is in
    record {
      device = device_back _ _ _ _ c.args.lun c.args.n c.in-Some.unit c.take_out-task.result c.take_out-task.new.self c.reselect.result c.self.invariant.device (free_link _ _ _ c.self.view_is c.requires.free) c.if-self.false p c.take_out-task.ensures.after c.take_out-task.ensures.len c.reselect.ensures.connection c.take_out-task.ensures.waiting c.take_out-task.ensures.others c.reselect.ensures.sound;
      tags = told _ _ (held.TaskConnected c.reselect.result) (view_back _ _ c.self.inside.link c.args.lun c.args.n c.args.tag c.in-Some.unit c.take_out-task.result c.take_out-task.new.self c.reselect.result _ c.self.view_is p (c.self.invariant.device.slots_are _ c.in-Some.unit p).rogue c.if-self.false c.take_out-task.ensures.task c.take_out-task.ensures.after c.reselect.ensures.connection) (tags_stay.reselected c.args.lun c.args.n c.args.tag _ (seen _ _ _ c.self.view_is c.self.invariant.tags));
    }

pub returns-in-Some : goal.returns-in-Some
returns-in-Some c =
    let p = read_unit _ _ _ c.self.view_is c.args.lun _ c.in-Some.unit _ c.requires.candidate c.index_mut.ensures.value c.in-Some.is in
    let v = view_back _ _ c.self.inside.link c.args.lun c.args.n c.args.tag c.in-Some.unit c.take_out-task.result c.take_out-task.new.self c.reselect.result _ c.self.view_is p (c.self.invariant.device.slots_are _ c.in-Some.unit p).rogue c.if-self.false c.take_out-task.ensures.task c.take_out-task.ensures.after c.reselect.ensures.connection in
    elim c.match-self-2.branch [
      | in-TaskConnected-2 w ↦ w.self-is ∙ v
      | in-BusFree-2 w ↦ w.self-is ∙ v
    ]

pub returns-in_default : goal.returns-in_default
returns-in_default c =
    let t = there_in _ _ _ c.self.view_is c.args.lun _ c.requires.candidate in
    absurd (not_none _ c.args.lun t.0 _ t.1 c.index_mut.ensures.value c.in_default.is)
