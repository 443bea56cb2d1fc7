-- ATN and ACK. Sources: SCSI-2 6.2.1 attention condition, 6.1.9 message phases; own is that a message is whole when ATN is released.
use Rattle.std.specs.Prelude.{ℕ, Bool, true, false, Option, Some, None}
use Rattle.scsi_words.specs.declared.phases.kinds.Phase.{Phase as BusPhase}
use Rattle.scsi_words.specs.declared.phases.kinds.Phase.TheVariants as phase
use Rattle.target_law.specs.Calls.{link_phase, target_messaged, target_acked}
use Rattle.target_law.specs.Devices.{DeviceState, where_room}
use Rattle.bus_law.specs.Bus.{BusState, device_at, link_on, becomes}

-- ATN is released: while MSG_OUT is shown, the message is whole, and acts
abbrev pub is_message_out : Option BusPhase → Bool
is_message_out (Some phase.MsgOut) = true
is_message_out _ = false

abbrev pub device_messaged : DeviceState → DeviceState
device_messaged d = where_room d (target_messaged d.target)

abbrev pub messaged : Bool → Option ℕ → BusState → BusState
messaged true (Some id) b = becomes b id (device_messaged (device_at b id))
messaged shown id b = b

abbrev pub after_atn : Bool → BusState → BusState
after_atn true b = record b { atn = true }
after_atn false b = record (messaged (is_message_out (link_phase (link_on b))) b.connected b) { atn = false }

-- ACK is released, by which the target acts on its message byte
abbrev pub device_acked : DeviceState → DeviceState
device_acked d = where_room d (target_acked d.target)

abbrev pub acked : Option ℕ → BusState → BusState
acked None b = b
acked (Some id) b = becomes b id (device_acked (device_at b id))

abbrev pub after_ack : Bool → BusState → BusState
after_ack true b = record (acked b.connected b) { ack = false }
after_ack false b = b
