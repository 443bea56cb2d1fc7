use Rattle.std.proofs.Common.{◌∙◌, sym, refl, arith}
use Rattle.scsi_target.specs.Devices.{KeepsPlaces}
use Rattle.bus_law.specs.Bus.{no_device, device_reset}
use Rattle.target_bus.proofs.Resets.{first-none, first-all, step-more, one-more, read-first}
use Rattle.target_bus.proofs.resetting.reset_all.Goals as goal

pub loop-i-init : goal.loop-i-init
loop-i-init c = record { devices = sym (first-none device_reset c.args.devices.now.items); count = refl; places = λ k l. absurd (omega (arith, l)) }

pub loop-i-preserved : goal.loop-i-preserved
loop-i-preserved c =
    let ok = c.args.devices.now.ok in
    record {
      devices = step-more device_reset c.args.devices.now.items c.loop-i.devices.items c.loop-i.i c.index_mut.result.now c.reset.new.self c.loop-i.invariant.devices c.index_mut.ensures.value c.reset.ensures.state (omega arith);
      count = c.loop-i.invariant.count;
      places = one-more KeepsPlaces c.args.devices.now.items no_device c.loop-i.i c.loop-i.invariant.places (read-first device_reset c.args.devices.now.items c.loop-i.devices.items c.loop-i.i c.index_mut.result.now no_device c.loop-i.invariant.devices c.index_mut.ensures.value (omega arith)) c.reset.ensures.places;
    }

pub returns-clause-devices : goal.returns-clause-devices
returns-clause-devices c =
    let ok = c.args.devices.now.ok in
    let end = c.loop-i.auto.i-end in
    c.loop-i.invariant.devices ∙ first-all device_reset c.loop-i.i c.args.devices.now.items (omega arith)

pub returns-clause-places : goal.returns-clause-places
returns-clause-places c = λ id l.
    let ok = c.args.devices.now.ok in
    let end = c.loop-i.auto.i-end in
    c.loop-i.invariant.places id (omega (arith, l))
