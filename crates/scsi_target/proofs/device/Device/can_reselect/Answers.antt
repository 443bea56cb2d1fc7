use Rattle.std.proofs.Common.{◌≡◌, subst, sym}
use Rattle.target_law.specs.Target.{LogicalUnit}
use Rattle.target_law.specs.Calls.{candidates}
use Rattle.unit_tasks.specs.Units.{unit_of}
use Rattle.scsi_target.proofs.Places.{there_in, back_in, is_unit, not_none, in_range}
use Rattle.scsi_target.proofs.device.Device.can_reselect.Goals as goal

pub index-requires : goal.index-requires
index-requires c = let t = there_in _ _ _ c.self.view_is c.args.lun _ c.requires in in_range _ _ _ _ c.args.lun t.0 c.self.invariant.device t.1

pub unreachable-requires : goal.unreachable-requires
unreachable-requires c = let t = there_in _ _ _ c.self.view_is c.args.lun _ c.requires in not_none _ c.args.lun t.0 _ t.1 c.index.ensures c.in-None.is

pub returns : goal.returns
returns c =
    let t = there_in _ _ _ c.self.view_is c.args.lun _ c.requires in
    back_in _ _ _ c.self.view_is c.args.lun (λ (u : LogicalUnit). c.candidates.result ≡ candidates u) t.0 t.1 (subst (λ q. c.candidates.result ≡ candidates (unit_of q)) (sym (is_unit _ c.args.lun t.0 _ _ t.1 c.index.ensures c.in-Some.is)) c.candidates.ensures)
