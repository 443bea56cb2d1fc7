-- Laws of the bus.
use Rattle.std.specs.Prelude.{◌≡◌, ◌≢◌, ◌⊎◌, ℕ, false, true, List, Option, Some, None}
use Rattle.rig_types.specs.declared.rig.Unit.{Unit as RigUnit}
use Rattle.chip_step.specs.Event.{Event, Select, Reselect}
use Rattle.chip_step.specs.Laws.{IsLawful}
use Rattle.chip_step.specs.declared.scsi_bus.Settled.TheVariants.{Selected, Reselected}
use Rattle.chip_rows.specs.Answers.{HasOneAnswer, HasOneEnd}
use Rattle.target_law.specs.declared.nexus.Nexus.{Nexus}
use Rattle.target_law.specs.Target.{target_reset}
use Rattle.target_law.specs.Calls.{is_free}
use Rattle.target_law.specs.Devices.{DeviceState, lie_within}
use Rattle.bus_law.specs.Bus.{BusState, device_at, signals_of, bus_opened, bus_reset}
use Rattle.bus_law.specs.Moves.{moves}

-- each call keeps the laws of a bus
abbrev pub KeepsTheLaws : Type 0
KeepsTheLaws = (units : List RigUnit) (live : ℕ → Nexus → Option ℕ) (old : BusState) (event : Event) (new : BusState) → moves units live old event new
    → IsLawful signals_of old event new

-- a call has one answer and leaves one bus
abbrev pub AnswersOnce : Type 0
AnswersOnce = (units : List RigUnit) (live : ℕ → Nexus → Option ℕ) → HasOneAnswer (moves units live)

-- so a step of the chip with a word has one end, and leaves one memory, one set of registers and one bus
abbrev pub StepsOnce : Type 0
StepsOnce = (units : List RigUnit) (live : ℕ → Nexus → Option ℕ) → HasOneEnd (moves units live)

-- who is connected: a selection connects its target and a reselection the one that comes; every other call leaves it so or frees the bus
abbrev pub Connects : BusState → Event → BusState → Type 0
Connects old (Select target word Selected) new = new.connected ≡ Some target
Connects old (Select target word (Reselected by)) new = new.connected ≡ Some by
Connects old (Reselect word (Some by)) new = new.connected ≡ Some by
Connects old event new = (new.connected ≡ old.connected) ⊎ (new.connected ≡ None)

abbrev pub ConnectsSo : Type 0
ConnectsSo = (units : List RigUnit) (live : ℕ → Nexus → Option ℕ) (old : BusState) (event : Event) (new : BusState) → moves units live old event new
    → Connects old event new

-- the connected device isn't free, and every other one is
pub record OneConnected (b : BusState) : Type 0 where
  pub connected : (id : ℕ) → b.connected ≡ Some id → is_free (device_at b id).target.link ≡ false
  pub others : (id : ℕ) → b.connected ≢ Some id → is_free (device_at b id).target.link ≡ true

-- so it is at the opening, so each call leaves it, and so does a bus reset, where each log has room for its entries
abbrev pub OpensConnected : Type 0
OpensConnected = (units : List RigUnit) → OneConnected (bus_opened units)

abbrev pub StaysConnected : Type 0
StaysConnected = (units : List RigUnit) (live : ℕ → Nexus → Option ℕ) (old : BusState) (event : Event) (new : BusState) → OneConnected old
    → moves units live old event new → OneConnected new

abbrev pub HasResetRoom : DeviceState → Type 0
HasResetRoom d = lie_within (target_reset d.target).units d.rooms ≡ true

abbrev pub ResetsConnected : Type 0
ResetsConnected = (b : BusState) → ((id : ℕ) → HasResetRoom (device_at b id)) → OneConnected (bus_reset b)
