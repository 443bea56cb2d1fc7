use Rattle.std.proofs.Common.{◌≡◌, ◌∙◌, ap, sym, arith, length}
use Rattle.target_law.specs.Target.{unit_at}
use Rattle.target_law.specs.Devices.{DeviceState}
use Rattle.bus_law.specs.Bus.{BusState, device_at}
use Rattle.bus_law.specs.Reselections.{candidate_count}
use Rattle.target_bus.proofs.BusInvariant.{read-is}
use Rattle.target_bus.proofs.CandidateCounts.{count-past}
use Rattle.target_bus.proofs.bus.TargetBus.candidates_of.Goals as goal

pub returns-then-len-unit-clause-count : goal.returns-then-len-unit-clause-count
returns-then-len-unit-clause-count c =
    let counted = c.self.invariant.counted in
    let seven : length c.self.inside.devices.items ≡ 7 = c.self.invariant.seven in
    sym (count-past c.self.inside.devices.items c.args.unit.now.target c.args.unit.now.lun (omega arith))
    ∙ ap (λ (b : BusState). candidate_count (unit_at (device_at b c.args.unit.now.target).target.units c.args.unit.now.lun)) c.self.view_is

pub returns-clause-count : goal.returns-clause-count
returns-clause-count c =
    let counted = c.self.invariant.counted in
    let seven : length c.self.inside.devices.items ≡ 7 = c.self.invariant.seven in
    c.candidates_at.ensures
    ∙ ap (λ (d : DeviceState). candidate_count (unit_at d.target.units c.args.unit.now.lun)) (read-is c.self.inside.devices.items c.args.unit.now.target c.index.result.now (omega arith) c.index.ensures)
    ∙ ap (λ (b : BusState). candidate_count (unit_at (device_at b c.args.unit.now.target).target.units c.args.unit.now.lun)) c.self.view_is

pub returns-clause-within : goal.returns-clause-within
returns-clause-within c = λ h. let counted = c.self.invariant.counted in omega arith
