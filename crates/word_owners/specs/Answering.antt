-- Which targets answer a selection: each unit's, exactly where the unit isn't absent (own).
use Rattle.std.specs.Prelude.{◌≡◌, ◌<◌, ℕ, not, List, length, slice_index_or}
use Rattle.rig_types.specs.declared.rig.Unit.{Unit as RigUnit}
use Rattle.target_law.specs.Calls.{answers}
use Rattle.rig_types.specs.Ranges.{IsRig}
use Rattle.bus_law.specs.Bus.{BusState, bus_opened, device_at}
use Rattle.desk_law.specs.Desk.{no_unit}
use Rattle.world_law.specs.declared.reply.Reply.{Reply}
use Rattle.world_law.specs.World.{World}
use Rattle.world_law.specs.ChipSteps.{RunsChip}

abbrev pub unit_at : List RigUnit → ℕ → RigUnit
unit_at units u = slice_index_or units u no_unit

pub record AreAnswering (units : List RigUnit) (b : BusState) : Type 0 where
  pub target : (u : ℕ) → u < length units → (unit_at units u).target < 7
  pub answering : (u : ℕ) → u < length units → answers (device_at b (unit_at units u).target).target ≡ not (unit_at units u).absent

-- each step of the chip leaves it so, for every answer of the bus
abbrev pub AnsweringStays : Type 0
AnsweringStays = (units : List RigUnit) (w new : World) (word : ℕ) (answer : Reply) → RunsChip w word answer new → AreAnswering units w.bus → AreAnswering units new.bus

-- so it is at the opening of a rig
abbrev pub AnsweringOpens : Type 0
AnsweringOpens = (version retries step_limit : ℕ) (units : List RigUnit) → IsRig version units retries step_limit → AreAnswering units (bus_opened units)
