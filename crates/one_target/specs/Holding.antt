-- What holds of the bus of `one` between any two of its calls.
use Rattle.std.specs.Prelude.{◌≡◌, nat_lt, ◌==◌, ◌&&◌, not, Bool, true, false, List, [], ◌∷◌, Option, Some, None}
use Rattle.rig_types.specs.declared.rig.Unit.{Unit as RigUnit}
use Rattle.target_law.specs.declared.task_phase.TaskPhase.{TaskPhase}
use Rattle.target_law.specs.declared.task_phase.TaskPhase.TheVariants.{MessageIn}
use Rattle.target_law.specs.Target.{LogicalUnit, ConnectionState, BusFree, Selected, TakingCommand, TaskConnected, RogueConnected}
use Rattle.target_law.specs.Devices.{DeviceState, lie_within}
use Rattle.one_target.specs.Bus.{BusState, bus_of}

-- a unit that keeps the rules, is there, and has a place for a task
abbrev pub is_usual : RigUnit → Bool
is_usual r = not r.rogue && (not r.absent && nat_lt 0 r.depth)

-- the first of the eight places holds such a unit, and the others are empty
abbrev pub is_alone : List (Option LogicalUnit) → Bool
is_alone (Some u ∷ None ∷ None ∷ None ∷ None ∷ None ∷ None ∷ None ∷ []) = is_usual u.rig
is_alone _ = false

-- the connection is one of LUN 0
abbrev pub is_of_one : ConnectionState → Bool
is_of_one BusFree = true
is_of_one (Selected heard) = true
is_of_one (TakingCommand n taken) = n.lun == 0
is_of_one (TaskConnected c) = c.lun == 0
is_of_one (RogueConnected s n) = false

-- a message byte was sent that isn't acknowledged yet
abbrev pub is_said : TaskPhase → Bool
is_said (MessageIn n sent) = sent
is_said _ = false

abbrev pub awaits_ack : ConnectionState → Bool
awaits_ack (TaskConnected c) = is_said c.shows
awaits_ack _ = false

-- the logs lie within their rooms
pub record IsHeld (b : BusState) : Type 0 where
  pub fits : lie_within b.target.units b.rooms ≡ true
  pub alone : is_alone b.target.units ≡ true
  pub of_one : is_of_one b.target.link ≡ true
  pub acknowledges : b.ack ≡ true → awaits_ack b.target.link ≡ true

-- the same of the device alone
abbrev pub IsHeldDevice : DeviceState → Type 0
IsHeldDevice d = IsHeld (bus_of d false false None)
