-- What a unit does with one command, by itself: four rules in their order. Nothing here knows of a bus, a phase or a word of memory.
-- Sources: SCSI-2 8.2.5 INQUIRY, 8.2.14 REQUEST SENSE with its sense keys and additional sense codes, 7.9 unit attention, 9.2.7 READ
-- CAPACITY; own are the texts of the inquiry data, and that an allocation length of 0 asks for no sense data.
use Rattle.std.specs.Prelude.{ℕ, ◌+◌, ◌-◌, ◌*◌, nat_le, Bool, true, false, List, [], ◌∷◌, ◌++◌, length, take, drop, codes, Option, Some, None}
use Rattle.std.specs.Int.{to_be_bytes, w32}
use Rattle.scsi_words.specs.declared.statuses.kinds.Status.{Status}
use Rattle.scsi_words.specs.declared.statuses.kinds.Status.TheVariants.{Good, Check, Busy, Conflict, QueueFull}
use Rattle.cdb_codec.specs.declared.commands.Cdb.{Cdb}
use Rattle.cdb_codec.specs.declared.commands.Cdb.TheVariants.{TestUnitReady, RequestSense, Read, Write, Inquiry, ReadCapacity, BadField, Other}
use Rattle.cdb_codec.specs.declared.commands.Need.{Need}
use Rattle.cdb_codec.specs.Forms.{need_of, no_data}
use Rattle.plain_lun.specs.declared.sense.SenseCode.{SenseCode}
use Rattle.plain_lun.specs.Unit.{UnitState, blocks_of}

-- NO SENSE
abbrev pub no_sense : SenseCode
no_sense = record { key = 0; code = 0x00; qualifier = 0x00 }

-- ILLEGAL REQUEST: invalid command operation code, logical block address out of range, invalid field in CDB
abbrev pub illegal : ℕ → SenseCode
illegal code = record { key = 5; code = code; qualifier = 0x00 }

-- UNIT ATTENTION: power on, reset, or bus device reset occurred
abbrev pub reset_occurred : SenseCode
reset_occurred = record { key = 6; code = 0x29; qualifier = 0x00 }

-- sense data in the fixed form, for current errors: 18 bytes
unfoldable pub sense_data : SenseCode → List ℕ
sense_data s = 0x70 ∷ 0 ∷ s.key ∷ 0 ∷ 0 ∷ 0 ∷ 0 ∷ 0x0A ∷ 0 ∷ 0 ∷ 0 ∷ 0 ∷ s.code ∷ s.qualifier ∷ 0 ∷ 0 ∷ 0 ∷ 0 ∷ []

-- standard inquiry data: a direct-access device that conforms to SCSI-2 and takes tagged commands, with its vendor, product and revision
unfoldable pub inquiry_data : List ℕ
inquiry_data = 0x00 ∷ 0x00 ∷ 0x02 ∷ 0x02 ∷ 0x1F ∷ 0x00 ∷ 0x00 ∷ 0x02 ∷ codes "SYMBENCHPLAIN UNIT      0001"

-- READ CAPACITY's data: the last block and the length of a block, most significant byte first
unfoldable pub capacity_data : UnitState → List ℕ
capacity_data u = to_be_bytes w32 (blocks_of u - 1) ++ to_be_bytes w32 512

-- a status with its data
pub record Answered : Type 0 where
  pub status : Status
  pub bytes : List ℕ

-- the unit after a command, and its answer
pub record Performed : Type 0 where
  pub unit : UnitState
  pub answer : Answered

-- GOOD with these data: the disk is then this one, and the old sense is removed
abbrev pub good : UnitState → List ℕ → List ℕ → Performed
good u disk bytes = record { unit = record { disk = disk; sense = None; attention = u.attention }; answer = record { status = Good; bytes = bytes } }

-- CHECK CONDITION without data: the unit keeps this sense, and its attention is cleared
abbrev pub checked : UnitState → SenseCode → Performed
checked u s = record { unit = record { disk = u.disk; sense = Some s; attention = false }; answer = record { status = Check; bytes = [] } }

-- the sense that REQUEST SENSE gives: the unit's own, else that of its attention, else none
abbrev pub sense_to_give : Option SenseCode → Bool → SenseCode
sense_to_give (Some s) attention = s
sense_to_give None true = reset_occurred
sense_to_give None false = no_sense

-- the attention after it, which is cleared where it was given
abbrev pub attention_after : Option SenseCode → Bool → Bool
attention_after (Some s) attention = attention
attention_after None attention = false

-- all the 18 bytes that REQUEST SENSE would give now
unfoldable pub sense_now : UnitState → List ℕ
sense_now u = sense_data (sense_to_give u.sense u.attention)

-- REQUEST SENSE gives the sense, cut to the length, and removes it
abbrev pub sensed : UnitState → ℕ → Performed
sensed u len = record {
  unit = record { disk = u.disk; sense = None; attention = attention_after u.sense u.attention };
  answer = record { status = Good; bytes = take len (sense_now u) };
}

-- all these blocks are the unit's
unfoldable pub holds : UnitState → ℕ → ℕ → Bool
holds u lba blocks = nat_le (lba + blocks) (blocks_of u)

-- the bytes of these blocks
unfoldable pub blocks_at : List ℕ → ℕ → ℕ → List ℕ
blocks_at disk lba blocks = take (512 * blocks) (drop (512 * lba) disk)

-- the disk with these bytes in place of those from this place on
unfoldable pub stored : List ℕ → ℕ → List ℕ → List ℕ
stored disk at bytes = take at disk ++ (bytes ++ drop (at + length bytes) disk)

-- a transfer of blocks that are all the unit's, or of one that isn't
abbrev pub transferred : Bool → UnitState → List ℕ → List ℕ → Performed
transferred true u disk bytes = good u disk bytes
transferred false u disk bytes = checked u (illegal 0x21)

-- rule 4: a command without attention
abbrev pub ordinary : UnitState → Cdb → List ℕ → Performed
ordinary u TestUnitReady received = good u u.disk []
ordinary u (RequestSense len) received = sensed u len
ordinary u (Read lba blocks six) received = transferred (holds u lba blocks) u u.disk (blocks_at u.disk lba blocks)
ordinary u (Write lba blocks six) received = transferred (holds u lba blocks) u (stored u.disk (512 * lba) received) []
ordinary u (Inquiry len) received = good u u.disk (take len inquiry_data)
ordinary u ReadCapacity received = good u u.disk (capacity_data u)
ordinary u BadField received = checked u (illegal 0x24)
ordinary u Other received = checked u (illegal 0x20)

-- rule 3: a set attention is told in place of performing, and cleared
abbrev pub attended : Bool → UnitState → Cdb → List ℕ → Performed
attended true u c received = checked u reset_occurred
attended false u c received = ordinary u c received

-- rules 1 and 2: INQUIRY leaves the attention, and REQUEST SENSE goes before it; every other command meets it first.
-- `received` are the bytes that a write has received
unfoldable pub perform : UnitState → Cdb → List ℕ → Performed
perform u (Inquiry len) received = good u u.disk (take len inquiry_data)
perform u (RequestSense len) received = sensed u len
perform u c received = attended u.attention u c received

-- what a command needs where it is performed with GOOD, else nothing
abbrev pub where_good : Status → Need → Need
where_good Good n = n
where_good Check n = no_data
where_good Busy n = no_data
where_good Conflict n = no_data
where_good QueueFull n = no_data

-- which way and how many bytes the unit would move now; what is received plays no part in the status
unfoldable pub wants_now : UnitState → Cdb → Need
wants_now u c = where_good (perform u c []).answer.status (need_of c)
