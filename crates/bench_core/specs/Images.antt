-- The disks of a rig's units.
use Rattle.std.specs.Prelude.{ℕ, List}
use Rattle.rig_types.specs.declared.rig.Unit.{Unit as RigUnit}
use Rattle.target_law.specs.Target.{unit_at}
use Rattle.bus_law.specs.Bus.{BusState, device_at}
use Rattle.bench_state.specs.Reading.{disk_of}

-- the disk of the unit that stands at the place of a unit of the rig
abbrev pub disk_at : BusState → RigUnit → List ℕ
disk_at b r = disk_of (unit_at (device_at b r.target).target.units r.lun)
