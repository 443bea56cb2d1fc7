use Rattle.std.proofs.Common.{subst, sym, vec_len}
use Rattle.scsi_target.specs.Views.{IsDevice}
use Rattle.scsi_target.specs.declared.connection_state.ConnectionState.TheVariants as held
use Rattle.scsi_target.proofs.Opening.{opens_start, opens_more, opens_device, opens_state}
use Rattle.target_law.proofs.Tags.{tags_stay}
use Rattle.scsi_target.proofs.DistinctTags.{told}
use Rattle.scsi_target.proofs.device.Device.open.Goals as goal

pub loop-unit-init : goal.loop-unit-init
loop-unit-init c = opens_start _ _ _ c.in_ok-slots.ensures.count c.in_ok-slots.ensures.items

pub loop-unit-preserved : goal.loop-unit-preserved
loop-unit-preserved c =
    let opened = c.in_ok-open.ensures in
    opens_more c.requires.0 _ _ _ c.loop-unit.unit-index _ c.in_ok-open.field-0 c.requires.1 c.loop-unit.invariant c.loop-unit-test.true opened.state opened.room opened.idle opened.depth

pub invariant_of-result : goal.invariant_of-result
invariant_of-result c = record {
  device = subst (λ b. IsDevice (vec_len c.loop-unit.slots) c.loop-unit.slots.items held.BusFree b) (sym c.first_is_rogue-rogue.ensures) (opens_device _ _ _ _ c.loop-unit.invariant c.loop-unit-test.false);
  tags = told _ _ held.BusFree (opens_state _ _ _ _ c.loop-unit.invariant c.loop-unit-test.false) (tags_stay.opened _);
}

pub returns : goal.returns
returns c = opens_state _ _ _ _ c.loop-unit.invariant c.loop-unit-test.false
