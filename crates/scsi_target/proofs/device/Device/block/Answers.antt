use Rattle.std.proofs.Common.{◌≡◌, ◌<◌, subst, sym}
use Rattle.plain_lun.specs.Unit.{blocks_of}
use Rattle.plain_lun.specs.Performing.{blocks_at}
use Rattle.target_law.specs.Target.{LogicalUnit}
use Rattle.scsi_target.proofs.Places.{there_in, back_in, is_unit, not_none, in_range}
use Rattle.scsi_target.proofs.device.Device.block.Goals as goal

pub index-requires : goal.index-requires
index-requires c = let t = there_in _ _ _ c.self.view_is c.args.lun _ c.requires.there in in_range _ _ _ _ c.args.lun t.0 c.self.invariant.device t.1

pub block-requires-clause-there : goal.block-requires-clause-there
block-requires-clause-there c =
    let t = there_in _ _ _ c.self.view_is c.args.lun _ c.requires.there in
    subst (λ q. c.args.n < blocks_of q.core.lun) (is_unit _ c.args.lun t.0 _ _ t.1 c.index.ensures c.in-Some.is) t.2

pub unreachable-requires : goal.unreachable-requires
unreachable-requires c =
    let t = there_in _ _ _ c.self.view_is c.args.lun _ c.requires.there in
    not_none _ c.args.lun t.0 _ t.1 c.index.ensures c.in-None.is

pub returns : goal.returns
returns c =
    let t = there_in _ _ _ c.self.view_is c.args.lun _ c.requires.there in
    back_in _ _ _ c.self.view_is c.args.lun (λ (u : LogicalUnit). c.block.new.into ≡ blocks_at u.plain.disk c.args.n 1) t.0 t.1 (subst (λ q. c.block.new.into ≡ blocks_at q.core.lun.disk c.args.n 1) (sym (is_unit _ c.args.lun t.0 _ _ t.1 c.index.ensures c.in-Some.is)) c.block.ensures)
