-- The status bytes of SCSI-2 that this project's targets give.
use Rattle.std.specs.Prelude.{ℕ}
use Rattle.scsi_words.specs.declared.statuses.kinds.Status.{Status}
use Rattle.scsi_words.specs.declared.statuses.kinds.Status.TheVariants.{Good, Check, Busy, Conflict, QueueFull}

abbrev pub status_code : Status → ℕ
status_code Good = 0x00
status_code Check = 0x02
status_code Busy = 0x08
status_code Conflict = 0x18
status_code QueueFull = 0x28
