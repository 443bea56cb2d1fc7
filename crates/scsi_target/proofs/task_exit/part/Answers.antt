use Rattle.std.proofs.Common.{◌≡◌, subst, sym, false, Some, slice_set, vec_len}
use Rattle.target_law.specs.Devices.{where_room}
use Rattle.scsi_target.specs.Views.{device_of, IsConnected, IsDevice}
use Rattle.scsi_target.specs.TaskExits.{target_by}
use Rattle.scsi_target.specs.declared.connection_state.ConnectionState.TheVariants as held
use Rattle.scsi_target.proofs.Parted.{here, made_device, parted_state}
use Rattle.scsi_target.proofs.task_exit.part.Goals as goal

pub part_by-requires-clause-slot : goal.part_by-requires-clause-slot
part_by-requires-clause-slot c =
    let f = here _ c.args.connection.lun c.lun.result (IsConnected false c.args.connection) c.in-Some.unit _ c.requires.device.linked c.lun.ensures c.index_mut.ensures.value c.in-Some.is in
    c.requires.device.slots_are c.args.connection.lun c.in-Some.unit f.0

pub part_by-requires-clause-connected : goal.part_by-requires-clause-connected
part_by-requires-clause-connected c =
    let f = here _ c.args.connection.lun c.lun.result (IsConnected false c.args.connection) c.in-Some.unit _ c.requires.device.linked c.lun.ensures c.index_mut.ensures.value c.in-Some.is in
    f.1

pub returns-clause-state : goal.returns-clause-state
returns-clause-state c =
    let f = here _ c.args.connection.lun c.lun.result (IsConnected false c.args.connection) c.in-Some.unit _ c.requires.device.linked c.lun.ensures c.index_mut.ensures.value c.in-Some.is in
    let s = c.args.units.now.items in
    let l = held.TaskConnected c.args.connection in
    subst (λ x. device_of (slice_set s x (Some c.part_by.new.unit)) c.part_by.result ≡ where_room (device_of s l) (target_by c.args.how (device_of s l).target c.args.connection)) (sym c.lun.ensures)
    (parted_state _ s c.args.connection c.args.how c.in-Some.unit c.part_by.new.unit c.part_by.result c.requires.device f.0 c.part_by.ensures)

pub returns-clause-device : goal.returns-clause-device
returns-clause-device c =
    let f = here _ c.args.connection.lun c.lun.result (IsConnected false c.args.connection) c.in-Some.unit _ c.requires.device.linked c.lun.ensures c.index_mut.ensures.value c.in-Some.is in
    subst (λ x. IsDevice (vec_len c.args.units.now) (slice_set c.args.units.now.items x (Some c.part_by.new.unit)) c.part_by.result false) (sym c.lun.ensures)
    (made_device _ _ c.args.connection c.in-Some.unit c.part_by.new.unit c.part_by.result _ _ c.requires.device f.0 c.part_by.ensures)
