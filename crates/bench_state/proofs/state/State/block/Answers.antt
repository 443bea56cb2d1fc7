use Rattle.std.proofs.Common.{◌≡◌, subst}
use Rattle.target_law.specs.Target.{unit_at}
use Rattle.target_law.specs.Devices.{DeviceState}
use Rattle.bus_law.specs.Bus.{device_at}
use Rattle.bench_state.specs.States.{BenchState}
use Rattle.bench_state.specs.Reading.{disk_of, block_at}
use Rattle.bench_state.proofs.UnitReading.{block_there}
use Rattle.bench_state.proofs.state.State.block.Goals as goal

-- src/unit_reading.rt:38:5
pub returns : goal.returns
returns c =
    let read : c.block.new.into ≡ block_at (disk_of (unit_at c.device.result.now.target.units c.args.lun)) c.args.n =
    block_there (unit_at c.device.result.now.target.units c.args.lun) c.args.n c.block.new.into c.block.ensures in
    let here : c.block.new.into ≡ block_at (disk_of (unit_at (device_at c.self.inside.bus.bus c.args.target).target.units c.args.lun)) c.args.n =
    subst (λ (d : DeviceState). c.block.new.into ≡ block_at (disk_of (unit_at d.target.units c.args.lun)) c.args.n) c.device.ensures read in
    subst (λ (b : BenchState). c.block.new.into ≡ block_at (disk_of (unit_at (device_at b.world.bus c.args.target).target.units c.args.lun)) c.args.n) c.self.view_is here
