use Rattle.std.proofs.Common.{◌≡◌, ◌∙◌, ap, sym, false, Some, None, map}
use Rattle.target_law.specs.declared.task_phase.TaskPhase.{TaskPhase}
use Rattle.target_law.specs.Target.{Target}
use Rattle.target_law.specs.Devices.{where_room}
use Rattle.scsi_target.specs.Slots.{slot_of}
use Rattle.scsi_target.specs.TaskExits.{exit_of}
use Rattle.scsi_target.specs.Views.{device_of}
use Rattle.scsi_target.specs.declared.connection_state.ConnectionState.TheVariants as held
use Rattle.scsi_target.proofs.Acks.{acked_parts, acked_stays, device_on}
use Rattle.scsi_target.proofs.messages.acked_connected.Goals as goal

pub returns-in-Some-clause-state : goal.returns-in-Some-clause-state
returns-in-Some-clause-state c =
    let p : exit_of c.args.connection.shows ≡ Some c.in-Some.how = sym (c.exit_of.ensures ∙ ap (λ (x : TaskPhase). exit_of x) c.shows.ensures) ∙ c.in-Some.is in
    c.part.ensures.state ∙ ap (λ (t : Target). where_room (device_of c.args.units.now.items (held.TaskConnected c.args.connection)) t) (sym (acked_parts (map slot_of c.args.units.now.items) c.args.connection c.in-Some.how p))

pub returns-in-None-clause-state : goal.returns-in-None-clause-state
returns-in-None-clause-state c =
    let p : exit_of c.args.connection.shows ≡ None = sym (c.exit_of.ensures ∙ ap (λ (x : TaskPhase). exit_of x) c.shows.ensures) ∙ c.in-None.is in
    acked_stays _ c.args.units.now.items c.args.connection c.gone_on.result c.requires p c.gone_on.ensures.connection

pub returns-in-None-clause-device : goal.returns-in-None-clause-device
returns-in-None-clause-device c = device_on _ _ (held.TaskConnected c.args.connection) (held.TaskConnected c.gone_on.result) false c.requires c.gone_on.ensures.held
