-- The bytes of the information transfer phases. Sources: SCSI-2 6.1.5 to 6.1.9 phases; own is that a byte comes only in the phase that was asked
-- for.
use Rattle.std.specs.Prelude.{ℕ, ◌%◌, ◌==◌, ◌||◌, nat_lt, Bool, true, false, length, Option, Some, None, option_map}
use Rattle.scsi_words.specs.Phases.{phase_code}
use Rattle.scsi_words.specs.declared.phases.kinds.Phase.{Phase as BusPhase}
use Rattle.scsi_words.specs.declared.phases.kinds.Phase.TheVariants as phase
use Rattle.target_law.specs.declared.nexus.Nexus.{Nexus}
use Rattle.target_law.specs.Target.{linked}
use Rattle.target_law.specs.Calls.{link_phase, link_byte, sent_if}
use Rattle.target_law.specs.Beginning.{target_took}
use Rattle.target_law.specs.Devices.{DeviceState}
use Rattle.bus_law.specs.Bus.{BusState, device_at, link_on, with_device, becomes}

-- ---- bytes from the target

abbrev pub is_same_phase : Option BusPhase → Option BusPhase → Bool
is_same_phase (Some a) (Some b) = phase_code a == phase_code b
is_same_phase a b = false

-- a byte comes only in the phase that was asked for, and is below 256
abbrev pub if_asked : Bool → Option ℕ → Option ℕ
if_asked true byte = option_map (λ (x : ℕ). x % 256) byte
if_asked false byte = None

abbrev pub byte_of : BusState → Option ℕ
byte_of b = if_asked (is_same_phase b.asked (link_phase (link_on b))) (link_byte (link_on b))

-- a byte of MSG_IN asserts ACK
abbrev pub is_message_in : Option BusPhase → Bool
is_message_in (Some phase.MsgIn) = true
is_message_in _ = false

abbrev pub sent : Option ℕ → DeviceState → DeviceState
sent byte d = record d { target = linked d.target (sent_if byte d.target.link) }

abbrev pub after_byte_in : Option ℕ → Option ℕ → BusState → BusState
after_byte_in (Some id) (Some byte) b =
    record (with_device b id (sent (Some byte) (device_at b id))) { ack = is_message_in (link_phase (link_on b)) || b.ack }
after_byte_in id byte b = b

-- ---- bytes to the target

-- with the last byte of its descriptor block a task begins, for the live ticket of each nexus of a target
module _ (live : ℕ → Nexus → Option ℕ) where
  abbrev pub device_took : ℕ → DeviceState → ℕ → DeviceState
  device_took id d byte = record d { target = target_took (live id) d.target byte }

  abbrev pub after_byte_out : (taken : Bool) → Option ℕ → ℕ → BusState → BusState
  after_byte_out true (Some id) byte b = becomes b id (device_took id (device_at b id) byte)
  after_byte_out taken id byte b = b
