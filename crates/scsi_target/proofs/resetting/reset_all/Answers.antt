use Rattle.std.proofs.Common.{◌∙◌, sym, refl, arith}
use Rattle.scsi_target.proofs.Resets.{first_none, first_all, step_can, step_more}
use Rattle.scsi_target.proofs.resetting.reset_all.Goals as goal

pub loop-i-init : goal.loop-i-init
loop-i-init c = (sym (first_none c.args.units.now.items), refl)

pub reset_slot-requires : goal.reset_slot-requires
reset_slot-requires c =
    let ok = c.args.units.now.ok in
    step_can c.args.units.now.items c.loop-i.units.items c.loop-i.i c.index_mut.result.now c.loop-i.invariant.0 c.index_mut.ensures.value c.requires (omega arith)

pub loop-i-preserved : goal.loop-i-preserved
loop-i-preserved c =
    let ok = c.args.units.now.ok in
    (step_more c.args.units.now.items c.loop-i.units.items c.loop-i.i c.index_mut.result.now c.reset_slot.new.unit c.loop-i.invariant.0 c.index_mut.ensures.value c.reset_slot.ensures (omega arith), c.loop-i.invariant.1)

pub returns-clause-units : goal.returns-clause-units
returns-clause-units c =
    let ok = c.args.units.now.ok in
    let end = c.loop-i.auto.i-end in
    c.loop-i.invariant.0 ∙ first_all c.loop-i.i c.args.units.now.items (omega arith)
