-- How the fields of the bus show its state, and what holds of it between its calls.
use Rattle.std.specs.Prelude.{◌≡◌, ℕ, Bool, true, false, ◌||◌, List, length, Option, Some, None}
use Rattle.scsi_words.specs.declared.phases.kinds.Phase.{Phase as BusPhase}
use Rattle.target_law.specs.declared.nexus.Nexus.{Nexus}
use Rattle.target_law.specs.Calls.{WaitsForAck}
use Rattle.target_law.specs.Devices.{DeviceState}
use Rattle.bus_law.specs.Bus.{BusState, link_on}
use Rattle.bus_law.specs.Bytes.{is_message_in}
use Rattle.bus_law.specs.Laws.{OneConnected}

abbrev pub bus_of : List DeviceState → Option ℕ → (atn ack : Bool) → Option BusPhase → BusState
bus_of devices connected atn ack asked = record { devices = devices; connected = connected; atn = atn; ack = ack; asked = asked }

-- a device for each SCSI ID but the host's; the connected one alone isn't free; and ACK is asserted only while a message byte waits for it
pub record IsHeldBus (count : ℕ) (b : BusState) : Type 0 where
  pub counted : count ≡ 7
  pub seven : length b.devices ≡ 7
  pub one : OneConnected b
  pub acknowledges : b.ack ≡ true → WaitsForAck (link_on b)

-- who is connected, of a device that was: none where it has left the bus
abbrev pub kept_if : Bool → ℕ → Option ℕ
kept_if true id = Some id
kept_if false id = None

-- the live ticket of a connection's nexus, if it has one
abbrev pub ticket_on : (Nexus → Option ℕ) → Option Nexus → Option ℕ
ticket_on live None = None
ticket_on live (Some n) = live n

-- ACK after a byte of this phase, if one came
abbrev pub ack_by : Option ℕ → Option BusPhase → (ack : Bool) → Bool
ack_by (Some byte) shown ack = is_message_in shown || ack
ack_by None shown ack = ack
