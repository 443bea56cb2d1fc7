use Rattle.std.proofs.Common.{◌≡◌, ◌∙◌, ap, arith, length}
use Rattle.bus_law.specs.Bus.{BusState, device_at}
use Rattle.target_bus.proofs.BusInvariant.{read-is}
use Rattle.target_bus.proofs.bus.TargetBus.device.Goals as goal

pub index-requires : goal.index-requires
index-requires c = let counted = c.self.invariant.counted in let small = c.requires in omega arith

pub returns : goal.returns
returns c =
    let seven : length c.self.inside.devices.items ≡ 7 = c.self.invariant.seven in
    let small = c.requires in
    read-is c.self.inside.devices.items c.args.id c.index.result.now (omega arith) c.index.ensures ∙ ap (λ (b : BusState). device_at b c.args.id) c.self.view_is
