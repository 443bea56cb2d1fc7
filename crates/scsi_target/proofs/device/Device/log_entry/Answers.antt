use Rattle.std.proofs.Common.{◌≡◌, subst, sym}
use Rattle.std.specs.Prelude.{slice_get}
use Rattle.target_law.specs.Target.{LogicalUnit}
use Rattle.scsi_target.proofs.Places.{there_in, back_in, is_unit, not_none, in_range}
use Rattle.scsi_target.proofs.device.Device.log_entry.Goals as goal

pub index-requires : goal.index-requires
index-requires c = let t = there_in _ _ _ c.self.view_is c.args.lun _ c.requires in in_range _ _ _ _ c.args.lun t.0 c.self.invariant.device t.1

pub unreachable-requires : goal.unreachable-requires
unreachable-requires c = let t = there_in _ _ _ c.self.view_is c.args.lun _ c.requires in not_none _ c.args.lun t.0 _ t.1 c.index.ensures c.in-None.is

pub returns : goal.returns
returns c =
    let t = there_in _ _ _ c.self.view_is c.args.lun _ c.requires in
    back_in _ _ _ c.self.view_is c.args.lun (λ (u : LogicalUnit). c.entry.result ≡ slice_get u.log c.args.n) t.0 t.1 (subst (λ q. c.entry.result ≡ slice_get q.core.log.entries c.args.n) (sym (is_unit _ c.args.lun t.0 _ _ t.1 c.index.ensures c.in-Some.is)) c.entry.ensures)
