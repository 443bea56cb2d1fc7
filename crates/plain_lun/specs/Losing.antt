-- What a unit keeps of a command that is dropped before its end, and of a reset. Sources: SCSI-2 6.6.1 ABORT TAG and 7.9 unit attention
-- after a reset; own is that a write keeps its whole blocks.
use Rattle.std.specs.Prelude.{ℕ, ◌*◌, ◌/◌, Bool, true, false, List, length, take, None}
use Rattle.cdb_codec.specs.declared.commands.Cdb.{Cdb}
use Rattle.cdb_codec.specs.declared.commands.Cdb.TheVariants.{Write}
use Rattle.plain_lun.specs.Unit.{UnitState}
use Rattle.plain_lun.specs.Performing.{holds, stored}

-- the whole blocks at the front of these bytes
abbrev pub whole_blocks : List ℕ → List ℕ
whole_blocks bytes = take (512 * (length bytes / 512)) bytes

-- the unit with these bytes stored from a block on, where it has these blocks
abbrev pub stored_within : Bool → UnitState → ℕ → List ℕ → UnitState
stored_within true u lba bytes = record { disk = stored u.disk (512 * lba) bytes; sense = u.sense; attention = u.attention }
stored_within false u lba bytes = u

-- a command is dropped that has received these bytes: a write stores their whole blocks, and nothing else changes
unfoldable pub dropped : UnitState → Cdb → List ℕ → UnitState
dropped u (Write lba blocks six) received = stored_within (holds u lba (length received / 512)) u lba (whole_blocks received)
dropped u _ received = u

-- a reset removes the sense and sets the attention
unfoldable pub cleared : UnitState → UnitState
cleared u = record { disk = u.disk; sense = None; attention = true }
