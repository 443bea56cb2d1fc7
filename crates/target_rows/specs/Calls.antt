-- What the calls of the initiator make of a device.
use Rattle.std.specs.Prelude.{◌≡◌, ℕ, Bool, true, false, Option, Some, None}
use Rattle.scsi_words.specs.declared.phases.kinds.Phase.{Phase}
use Rattle.scsi_words.specs.declared.phases.kinds.Phase.TheVariants.{MsgIn}
use Rattle.target_law.specs.declared.moves.Move.{Move}
use Rattle.target_law.specs.Target.{ConnectionState, linked}
use Rattle.target_law.specs.Calls.{link_phase, link_byte, sent_if, target_acted}
use Rattle.target_law.specs.Lawful.{Named}
use Rattle.target_law.specs.Devices.{DeviceState, where_room}

-- after the byte that it has for the initiator, if it has one
abbrev pub after_byte : DeviceState → DeviceState
after_byte d = record { target = linked d.target (sent_if (link_byte d.target.link) d.target.link); rooms = d.rooms }

-- a byte of a message
abbrev pub is_message_in : Option Phase → Bool
is_message_in (Some MsgIn) = true
is_message_in _ = false

abbrev pub byte_where : Bool → Option ℕ → Option ℕ
byte_where true byte = byte
byte_where false byte = None

abbrev pub message_byte : ConnectionState → Option ℕ
message_byte l = byte_where (is_message_in (link_phase l)) (link_byte l)

-- after the move that the word names
pub record ActsBy (word : ℕ) (d d' : DeviceState) : Type 0 where
  pub move : Move
  pub named : Named d.target word move
  pub after : d' ≡ where_room d (target_acted d.target move)
