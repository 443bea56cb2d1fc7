-- The message codes of SCSI-2. IDENTIFY is bit 7, the disconnect privilege as bit 6, and the logical unit as bits 2 to 0.
use Rattle.std.specs.Prelude.{ℕ, ◌+◌, ◌<◌, if◌then◌else◌}
use Rattle.scsi_words.specs.declared.messages.kinds.Message.{Message}
use Rattle.scsi_words.specs.declared.messages.kinds.Message.TheVariants.{Complete, Save, Restore, Leave, Abort, Reject, NoOperation, DeviceReset, AbortTag, SimpleTag, HeadTag, OrderedTag, Identify}

abbrev pub message_code : Message → ℕ
message_code Complete = 0x00
message_code Save = 0x02
message_code Restore = 0x03
message_code Leave = 0x04
message_code Abort = 0x06
message_code Reject = 0x07
message_code NoOperation = 0x08
message_code DeviceReset = 0x0c
message_code AbortTag = 0x0d
message_code SimpleTag = 0x20
message_code HeadTag = 0x21
message_code OrderedTag = 0x22
message_code (Identify may_leave lun) = 0x80 + (if may_leave then 0x40 else 0) + lun

-- a logical unit has three bits
abbrev pub IsMessage : Message → Type 0
IsMessage (Identify may_leave lun) = lun < 8
IsMessage _ = Unit {0}
