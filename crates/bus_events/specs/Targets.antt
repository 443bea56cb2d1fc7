-- The targets of a bus, and a task that is connected. Source: own.
use Rattle.std.specs.Prelude.{◌≡◌, ℕ, ◌<◌, true, length, Some}
use Rattle.unit_law.specs.Log.{with_at}
use Rattle.target_law.specs.Bytes.{Connection}
use Rattle.target_law.specs.Target.{TaskConnected, Target}
use Rattle.target_law.specs.Devices.{lie_within}
use Rattle.bus_law.specs.Bus.{BusState, device_at}

abbrev pub targets : BusState → ℕ → Target
targets b id = (device_at b id).target

-- a task of this device is connected
pub record HasTask (b : BusState) (id : ℕ) (c : Connection) : Type 0 where
  pub stands : id < length b.devices
  pub connected : b.connected ≡ Some id
  pub link : (targets b id).link ≡ TaskConnected c

-- each log of the device has room for what the call adds
abbrev pub HasRoom : BusState → ℕ → Target → Type 0
HasRoom b id t = lie_within t.units (device_at b id).rooms ≡ true

-- the call makes this of one target, and leaves every other
abbrev pub Makes : BusState → ℕ → Target → BusState → Type 0
Makes old id t new = targets new ≡ with_at (targets old) id t
