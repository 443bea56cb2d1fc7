use Rattle.std.proofs.Common.{◌∙◌, sym}
use Rattle.scsi_target.proofs.Resets.{loop_more, loop_stops, loop_ends}
use Rattle.scsi_target.proofs.resetting.can_reset_all.Goals as goal

pub returns-then-not-can_reset_slot : goal.returns-then-not-can_reset_slot
returns-then-not-can_reset_slot c =
    loop_stops c.deref-unit-items.result.now c.args.units.now.items c.loop-unit.unit-index c.unit-item.result c.deref-unit-items.ensures.value c.loop-unit-test.true c.unit-item.is (sym c.can_reset_slot.ensures ∙ c.if-not-can_reset_slot.true) c.loop-unit.invariant

pub loop-unit-preserved : goal.loop-unit-preserved
loop-unit-preserved c =
    loop_more c.deref-unit-items.result.now c.args.units.now.items c.loop-unit.unit-index c.unit-item.result c.deref-unit-items.ensures.value c.loop-unit-test.true c.unit-item.is (sym c.can_reset_slot.ensures ∙ c.if-not-can_reset_slot.false) c.loop-unit.invariant

pub returns : goal.returns
returns c = loop_ends c.deref-unit-items.result.now c.args.units.now.items c.loop-unit.unit-index c.deref-unit-items.ensures.value c.loop-unit-test.false c.loop-unit.invariant
