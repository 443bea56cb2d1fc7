use Rattle.std.proofs.Common.{◌≡◌, ◌∙◌, ℕ, List, None, false, ap, sym, subst, arith, length, vec_len}
use Rattle.rig_types.specs.declared.rig.Unit.{Unit as RigUnit}
use Rattle.scsi_target.specs.Devices.{IsOneTarget}
use Rattle.target_law.specs.Devices.{DeviceState, device_opened}
use Rattle.bus_law.specs.Bus.{units_of}
use Rattle.target_bus.specs.Fields.{bus_of, IsHeldBus}
use Rattle.target_bus.proofs.Openings.{devices_below, one-more, of-one-target, opened-held, opened-length}
use Rattle.target_bus.proofs.bus.TargetBus.open.Goals as goal

pub open-requires : goal.open-requires
open-requires c =
    let e : c.as_slice-in-loop-id.result.now ≡ units_of c.args.rig.now.units c.loop-id.id = c.as_slice-in-loop-id.ensures.value ∙ c.in_ok-units.ensures ∙ ap (λ (us : List RigUnit). units_of us c.loop-id.id) c.as_slice.ensures in
    (c.args.rig.now.version, subst (λ (us : List RigUnit). IsOneTarget c.args.rig.now.version us) (sym e) (of-one-target c.args.rig.now.version c.args.rig.now.units c.args.rig.now.retries c.args.rig.now.step_limit c.loop-id.id c.args.rig.now.valid))

pub loop-id-preserved : goal.loop-id-preserved
loop-id-preserved c =
    let e : c.as_slice-in-loop-id.result.now ≡ units_of c.args.rig.now.units c.loop-id.id = c.as_slice-in-loop-id.ensures.value ∙ c.in_ok-units.ensures ∙ ap (λ (us : List RigUnit). units_of us c.loop-id.id) c.as_slice.ensures in
    c.in_ok-push.ensures.items ∙ one-more c.args.rig.now.units c.loop-id.id c.loop-id.devices.items c.in_ok-device.device c.loop-id.invariant (c.in_ok-device.ensures ∙ ap device_opened e)

pub invariant_of-result : goal.invariant_of-result
invariant_of-result c =
    let ok = c.loop-id.devices.ok in
    let end : c.loop-id.id ≡ 7 = let stop = c.loop-id.auto.id-end in omega (arith, c.loop-id-test.false) in
    let items : c.loop-id.devices.items ≡ devices_below c.args.rig.now.units 7 = c.loop-id.invariant ∙ ap (λ (n : ℕ). devices_below c.args.rig.now.units n) end in
    let seven : length c.loop-id.devices.items ≡ 7 = ap length items ∙ opened-length c.args.rig.now.units 7 in
    subst (λ (ds : List DeviceState). IsHeldBus (vec_len c.loop-id.devices) (bus_of ds None false false None)) (sym items) (opened-held (vec_len c.loop-id.devices) c.args.rig.now.units (omega arith))

pub returns : goal.returns
returns c =
    let end : c.loop-id.id ≡ 7 = let stop = c.loop-id.auto.id-end in omega (arith, c.loop-id-test.false) in
    ap (λ (ds : List DeviceState). bus_of ds None false false None) (c.loop-id.invariant ∙ ap (λ (n : ℕ). devices_below c.args.rig.now.units n) end)
