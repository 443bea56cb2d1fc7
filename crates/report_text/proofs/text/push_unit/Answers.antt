use Rattle.std.proofs.Common.{◌≡◌, ◌<◌, ◌*◌, List, length, take, drop, slice_index_or, sym, subst, ◌∙◌}
use Rattle.rig_types.specs.declared.rig.Unit.{Unit as RigUnit}
use Rattle.desk_law.specs.Desk.{no_unit}
use Rattle.report_text.proofs.BlockImages.{disk_at, shown_first, shown_more, of_unit, at_unit}
use Rattle.report_text.proofs.text.push_unit.Goals as goal

pub loop-block-init : goal.loop-block-init
loop-block-init c = shown_first _ _ _

pub image-requires-clause-there : goal.image-requires-clause-there
image-requires-clause-there c =
    of_unit c.args.bench.now.setting.units c.args.number no_unit (λ (r : RigUnit). c.loop-block.block < r.blocks)
    (subst (λ (us : List RigUnit). c.loop-block.block < (slice_index_or us c.args.number no_unit).blocks) (c.as_slice.ensures ∙ c.rig.ensures.units) c.loop-block-test.true)

pub loop-block-preserved : goal.loop-block-preserved
loop-block-preserved c =
    let within : c.args.number < length c.args.bench.now.setting.units =
    subst (λ (us : List RigUnit). c.args.number < length us) (sym c.rig.ensures.desk ∙ c.rig.ensures.units) c.requires in
    let there : c.image.new.into ≡ take 512 (drop (512 * c.loop-block.block) (disk_at c.args.bench.now.world (slice_index_or c.args.bench.now.setting.units c.args.number no_unit))) =
    at_unit c.args.bench.now.setting.units c.args.number no_unit
    (λ (r : RigUnit). c.image.new.into ≡ take 512 (drop (512 * c.loop-block.block) (disk_at c.args.bench.now.world r))) within c.image.ensures in
    let bytes : c.image.new.into ≡ take 512 (drop (512 * c.loop-block.block) (disk_at c.args.bench.now.world (slice_index_or c.as_slice.result.now c.args.number no_unit))) =
    subst
    (λ (us : List RigUnit). c.image.new.into ≡ take 512 (drop (512 * c.loop-block.block) (disk_at c.args.bench.now.world (slice_index_or us c.args.number no_unit))))
    (sym (c.as_slice.ensures ∙ c.rig.ensures.units)) there in
    shown_more c.args.bench.now.world (slice_index_or c.as_slice.result.now c.args.number no_unit) c.args.text.now.items c.loop-block.block
    c.loop-block.text.items c.image.new.into c.push_block.new.text.items c.loop-block-test.true bytes c.in_ok-push_block.ensures c.loop-block.invariant
