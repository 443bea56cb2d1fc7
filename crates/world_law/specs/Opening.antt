-- The world at its opening: host memory holds the words of its table and 0 elsewhere, every register is 0, the bus is free and the desk has no
-- ticket (own).
use Rattle.std.specs.Prelude.{ℕ, List, [], length, replicate, None}
use Rattle.rig_types.specs.declared.rig.Unit.{Unit as RigUnit}
use Rattle.chip_regs.specs.Registers.{cleared}
use Rattle.bus_law.specs.Bus.{bus_opened}
use Rattle.host_map.specs.declared.TheConstants.{MEMORY_BYTES}
use Rattle.opening_memory.specs.Opening.{opening_table}
use Rattle.opening_memory.specs.Tables.{written}
use Rattle.desk_law.specs.Desk.{desk_opened}
use Rattle.world_law.specs.declared.reply.Stop.TheVariants.{Run}
use Rattle.world_law.specs.World.{BenchSetting, World}

unfoldable pub memory_opened : (version : ℕ) → List RigUnit → List ℕ
memory_opened version units = written (replicate MEMORY_BYTES 0) (opening_table version units)

abbrev pub opened : BenchSetting → World
opened g = record {
  memory = memory_opened g.version g.units;
  regs = cleared;
  bus = bus_opened g.units;
  desk = desk_opened g.version g.units g.retries g.autosense (length g.submitters);
  stop = Run;
  resume = None;
  lines = replicate (length g.submitters) [];
  acts = [];
  reports = [];
}
