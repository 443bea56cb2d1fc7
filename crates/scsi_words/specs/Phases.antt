-- The information transfer phases of SCSI-2: the code is MSG, C/D and I/O as bits 2, 1 and 0. Codes 4 and 5 are reserved.
use Rattle.std.specs.Prelude.{ℕ}
use Rattle.scsi_words.specs.declared.phases.kinds.Phase.{Phase}
use Rattle.scsi_words.specs.declared.phases.kinds.Phase.TheVariants.{DataOut, DataIn, Command, Status, MsgOut, MsgIn}

abbrev pub phase_code : Phase → ℕ
phase_code DataOut = 0
phase_code DataIn = 1
phase_code Command = 2
phase_code Status = 3
phase_code MsgOut = 6
phase_code MsgIn = 7
