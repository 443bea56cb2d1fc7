use Rattle.std.proofs.Common.{◌≡◌, ◌<◌, ◌∙◌, false, List, slice_index_or, Option, sym, subst}
use Rattle.std.specs.Prelude.{IfSome}
use Rattle.plain_lun.specs.Unit.{blocks_of}
use Rattle.rig_types.specs.declared.rig.Unit.{Unit as RigUnit}
use Rattle.rig_types.specs.declared.rig.Pattern.TheVariants.{Zero}
use Rattle.rig_types.specs.Ranges.{IsRig}
use Rattle.target_law.specs.Target.{unit_at}
use Rattle.target_law.specs.Lawful.{IsThere}
use Rattle.bus_law.specs.Bus.{device_at}
use Rattle.bench_state.specs.Reading.{block_at}
use Rattle.bench_core.specs.Histories.{History, IsReplayed}
use Rattle.bench_core.specs.Images.{disk_at}
use Rattle.bench_core.proofs.UnitsStand.{rig_is, place_found, block_stands}
use Rattle.bench_core.proofs.bench.Bench.image.Goals as goal

no-unit : RigUnit
no-unit = record { target = 0; lun = 0; blocks = 0; pattern = Zero; depth = 0; disconnects = 0; refusals = 0; absent = false; rogue = false }

pub block-requires-clause-there : goal.block-requires-clause-there
unfolding no-unit
block-requires-clause-there c =
    let units : List RigUnit = c.as_slice.result.now in
    let place : RigUnit = slice_index_or units c.args.unit no-unit in
    let now : History = c.args.self.now in
    let replayed : IsReplayed now.setting now.entries now.world =
    subst (λ (h : History). IsReplayed h.setting h.entries h.world) c.self.view_is c.self.invariant.replayed in
    let valid : IsRig now.setting.version now.setting.units now.setting.retries now.setting.step_limit =
    rig_is _ _ _ _ now.setting c.rig.result.now.valid c.rig.ensures.version c.rig.ensures.units c.rig.ensures.retries c.rig.ensures.step_limit in
    let there : IsThere (unit_at (device_at now.world.bus place.target).target.units place.lun) (λ u. c.args.block < blocks_of u.plain) =
    block_stands now.setting now.entries now.world c.args.unit c.args.block place valid replayed
    (place_found now.setting units c.args.unit no-unit (c.as_slice.ensures ∙ c.rig.ensures.units) c.requires.unit) c.requires.there in
    subst (λ (h : History). IsThere (unit_at (device_at h.world.bus place.target).target.units place.lun) (λ u. c.args.block < blocks_of u.plain)) (sym c.self.view_is) there

pub returns : goal.returns
unfolding no-unit
returns c =
    let units : List RigUnit = c.as_slice.result.now in
    let place : RigUnit = slice_index_or units c.args.unit no-unit in
    let now : History = c.args.self.now in
    let read : c.block.new.into ≡ block_at (disk_at now.world.bus place) c.args.block =
    subst (λ (h : History). c.block.new.into ≡ block_at (disk_at h.world.bus place) c.args.block) c.self.view_is c.block.ensures in
    subst (λ (o : Option RigUnit). IfSome o (λ r. c.block.new.into ≡ block_at (disk_at now.world.bus r) c.args.block))
    (sym (place_found now.setting units c.args.unit no-unit (c.as_slice.ensures ∙ c.rig.ensures.units) c.requires.unit)) read
