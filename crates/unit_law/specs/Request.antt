-- A request as the definitions see it: its bytes alone. Source: own.
use Rattle.std.specs.Prelude.{ℕ, List, take}
use Rattle.scsi_words.specs.declared.phases.kinds.Direction.{Direction}
use Rattle.cdb_codec.specs.declared.commands.Cdb.{Cdb}
use Rattle.cdb_codec.specs.Blocks.{cdb_of}
use Rattle.cdb_codec.specs.Forms.{need_of}
use Rattle.rig_types.specs.declared.request.Request.{Request}

-- what is asked of a unit: its number, the descriptor block, the sizes of the buffer's parts, the direction, and the buffer as submitted
pub record RequestData : Type 0 where
  pub unit : ℕ
  pub cdb : List ℕ
  pub segments : List ℕ
  pub direction : Direction
  pub bytes : List ℕ

abbrev pub plain : Request → RequestData
plain r = record { unit = r.unit; cdb = r.cdb; segments = r.segments; direction = r.direction; bytes = r.bytes }

-- the command that its descriptor block says
abbrev pub command : RequestData → Cdb
command r = cdb_of r.cdb

-- the bytes that a write receives: as many of the buffer's as it needs
abbrev pub received_of : RequestData → List ℕ
received_of r = take (need_of (command r)).bytes r.bytes
