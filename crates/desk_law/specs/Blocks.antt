-- What Build writes: the block of a ticket, whole, and the bytes of its buffer (own; the messages are SCSI-2's, 6.6.7 IDENTIFY and 6.6.17.3
-- SIMPLE QUEUE TAG).
use Rattle.std.specs.Prelude.{ℕ, ◌+◌, ◌-◌, ◌*◌, true, List, [], ◌∷◌, length, replicate, take, drop, sum_by, flat_map}
use Rattle.std.specs.List.{range_with_len}
use Rattle.scsi_words.specs.declared.phases.kinds.Direction.{Direction}
use Rattle.scsi_words.specs.declared.phases.kinds.Direction.TheVariants.{In, Out, None as NoData}
use Rattle.scsi_words.specs.declared.messages.kinds.Message.TheVariants as message
use Rattle.scsi_words.specs.Messages.{message_code}
use Rattle.bench_words.specs.Memory.{put_bytes, bytes_at}
use Rattle.rig_types.specs.declared.rig.Unit.{Unit as RigUnit}
use Rattle.host_map.specs.declared.TheConstants.{BLOCK_BYTES}
use Rattle.cmd_block.specs.declared.Field.{Field}
use Rattle.cmd_block.specs.declared.Field.TheVariants.{Start, Restart, Lastp, Savep, State, Status, Sel, Gate, MsgCount, MsgAt, CmdCount, CmdAt, StatCount, StatAt, SegCount, SegAt}
use Rattle.cmd_block.specs.Block.{offset}
use Rattle.cmd_block.specs.declared.TheConstants.{MESSAGE, CDB, LIVE}
use Rattle.driver_script.specs.Script.{label_of}
use Rattle.driver_script.specs.declared.labels.Name.TheVariants as label
use Rattle.sense_job.specs.Turning.{with_fields}
use Rattle.desk_law.specs.declared.ticket.Piece.{Piece}
use Rattle.desk_law.specs.declared.ticket.Ticket.{Ticket}

-- ---- the buffer

-- how many bytes it has, and their addresses in order
abbrev pub buffer_length : Ticket → ℕ
buffer_length k = sum_by (λ (p : Piece). p.len) k.pieces

abbrev pub own : Ticket → List ℕ
own k = flat_map (λ (p : Piece). range_with_len p.chunk.base p.len) k.pieces

-- its bytes in memory
abbrev pub buffer : List ℕ → Ticket → List ℕ
buffer m k = flat_map (λ (p : Piece). bytes_at m p.chunk.base p.len) k.pieces

-- memory with these bytes in its pieces, one behind the other
abbrev pub with_buffer : List ℕ → List Piece → List ℕ → List ℕ
with_buffer m [] bytes = m
with_buffer m (p ∷ ps) bytes = with_buffer (put_bytes m p.chunk.base (take p.len bytes)) ps (drop p.len bytes)

-- ---- the block

-- where the data pointers of so many segments begin: segments fill the last of the table's 16 places
abbrev pub beginning : Direction → ℕ → ℕ
beginning In segments = label_of label.Datain + 8 * (16 - segments)
beginning Out segments = label_of label.Dataout + 8 * (16 - segments)
beginning NoData segments = label_of label.Over

abbrev pub begins_at : Ticket → ℕ
begins_at k = beginning k.direction (length k.pieces)

abbrev pub segment_fields : ℕ → List Piece → List (Field × ℕ)
segment_fields j [] = []
segment_fields j (p ∷ ps) = (SegCount j, p.len) ∷ (SegAt j, p.chunk.base) ∷ segment_fields (j + 1) ps

-- STATUS holds FF as long as no status came
abbrev pub no_status_yet : ℕ
no_status_yet = 0xFF

-- the fields of a new block
abbrev pub block_fields : RigUnit → Ticket → (cdb_length : ℕ) → List (Field × ℕ)
block_fields u k cdb_length =
    (Start, label_of label.Select) ∷ (Restart, label_of label.Restore) ∷ (Lastp, begins_at k) ∷ (Savep, begins_at k) ∷ (State, LIVE) ∷
    (Status, no_status_yet) ∷ (Sel, u.target * 0x10000) ∷ (Gate, label_of label.Badtask) ∷ (MsgCount, 3) ∷ (MsgAt, k.block + MESSAGE) ∷
    (CmdCount, cdb_length) ∷ (CmdAt, k.block + CDB) ∷ (StatCount, 1) ∷ (StatAt, k.block + offset Status) ∷
    segment_fields (16 - length k.pieces) k.pieces

-- IDENTIFY with the disconnect privilege, SIMPLE QUEUE TAG and the tag
abbrev pub message_bytes : RigUnit → Ticket → List ℕ
message_bytes u k = message_code (message.Identify true u.lun) ∷ message_code message.SimpleTag ∷ k.tag ∷ []

-- memory with the block of a ticket: 512 bytes, 0 where nothing lies
abbrev pub with_block : List ℕ → RigUnit → Ticket → (cdb : List ℕ) → List ℕ
with_block m u k cdb =
    put_bytes
    (put_bytes (with_fields (put_bytes m k.block (replicate BLOCK_BYTES 0)) k.block (block_fields u k (length cdb))) (k.block + MESSAGE) (message_bytes u k))
    (k.block + CDB) cdb
