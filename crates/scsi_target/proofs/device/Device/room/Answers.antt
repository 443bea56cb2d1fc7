use Rattle.std.proofs.Common.{◌≡◌, ◌≤◌, ◌∙◌, ap, subst, sym, length, slice_index_or}
use Rattle.unit_tasks.specs.declared.queued.QueuedUnit.{QueuedUnit}
use Rattle.target_law.specs.Target.{LogicalUnit}
use Rattle.target_law.specs.Devices.{DeviceState}
use Rattle.scsi_target.proofs.Places.{there_in, back_in, is_unit, not_none, in_range, room_there}
use Rattle.scsi_target.proofs.device.Device.room.Goals as goal

pub index-requires : goal.index-requires
index-requires c = let t = there_in _ _ _ c.self.view_is c.args.lun _ c.requires in in_range _ _ _ _ c.args.lun t.0 c.self.invariant.device t.1

pub unreachable-requires : goal.unreachable-requires
unreachable-requires c = let t = there_in _ _ _ c.self.view_is c.args.lun _ c.requires in not_none _ c.args.lun t.0 _ t.1 c.index.ensures c.in-None.is

pub returns-clause-room : goal.returns-clause-room
returns-clause-room c =
    let t = there_in _ _ _ c.self.view_is c.args.lun _ c.requires in
    c.room.ensures.room ∙ ap (λ (q : QueuedUnit). q.core.log.room) (sym (is_unit _ c.args.lun t.0 _ _ t.1 c.index.ensures c.in-Some.is))
    ∙ sym (room_there c.self.inside.units.items c.args.lun t.0 t.1) ∙ ap (λ (d : DeviceState). slice_index_or d.rooms c.args.lun 0) c.self.view_is

pub returns-clause-fits : goal.returns-clause-fits
returns-clause-fits c =
    let t = there_in _ _ _ c.self.view_is c.args.lun _ c.requires in
    back_in _ _ _ c.self.view_is c.args.lun (λ (u : LogicalUnit). length u.log ≤ c.room.result) t.0 t.1
    (subst (λ (q : QueuedUnit). length q.core.log.entries ≤ c.room.result) (sym (is_unit _ c.args.lun t.0 _ _ t.1 c.index.ensures c.in-Some.is)) c.room.ensures.fits)
