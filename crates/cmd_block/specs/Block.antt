-- The layout of a command block (own).
use Rattle.std.specs.Prelude.{◌≡◌, ℕ, pos, ◌+◌, ◌*◌, ◌<◌, List}
use Rattle.bench_words.specs.Memory.{word_at}
use Rattle.cmd_block.specs.declared.TheConstants.{MESSAGE, CDB, SENSE, LIVE, ENDED, CUT, NO_TARGET, SWEPT}
use Rattle.cmd_block.specs.declared.offsets.TheConstants as named
use Rattle.cmd_block.specs.declared.Field.{Field}
use Rattle.cmd_block.specs.declared.Field.TheVariants.{Start, Restart, Lastp, Savep, State, Status, Sel, Gate, MsgCount, MsgAt, CmdCount, CmdAt, StatCount, StatAt, SegCount, SegAt, CtxCount, CtxAt, CtxReturn}

-- there are 16 segments and two contexts
abbrev pub IsField : Field → Type 0
IsField (SegCount j) = j < 16
IsField (SegAt j) = j < 16
IsField (CtxCount j) = j < 2
IsField (CtxAt j) = j < 2
IsField (CtxReturn j) = j < 2
IsField f = Unit {0}

-- where a field lies in its block
abbrev pub offset : Field → ℕ
offset Start = 0x00
offset Restart = 0x04
offset Lastp = 0x08
offset Savep = 0x0C
offset State = 0x10
offset Status = 0x14
offset Sel = 0x18
offset Gate = 0x1C
offset MsgCount = 0x20
offset MsgAt = 0x24
offset CmdCount = 0x28
offset CmdAt = 0x2C
offset StatCount = 0x30
offset StatAt = 0x34
offset (SegCount j) = 0x40 + 8 * j
offset (SegAt j) = 0x44 + 8 * j
offset (CtxCount j) = 0xC0 + 0x10 * j
offset (CtxAt j) = 0xC4 + 0x10 * j
offset (CtxReturn j) = 0xC8 + 0x10 * j

-- a field of a block, in memory
abbrev pub field_of : List ℕ → ℕ → Field → ℕ
field_of m block f = word_at m (block + offset f)

-- the ranges behind the fields, and the values of STATE
pub record IsLayout : Type 0 where
  pub message : MESSAGE ≡ 0xE0
  pub command : CDB ≡ 0xF0
  pub sense : SENSE ≡ 0x100
  pub states : (LIVE ≡ 0) × (ENDED ≡ 1) × (CUT ≡ 2) × (NO_TARGET ≡ 3) × (SWEPT ≡ 4)

-- the offsets that have names are those of the fields
pub record NamesOffsets : Type 0 where
  pub starts : (named.START ≡ pos (offset Start)) × (named.RESTART ≡ pos (offset Restart))
  pub pointers : (named.LASTP ≡ pos (offset Lastp)) × (named.SAVEP ≡ pos (offset Savep))
  pub state : named.STATE ≡ pos (offset State)
  pub sel : named.SEL ≡ pos (offset Sel)
  pub gate : named.GATE ≡ pos (offset Gate)
  pub entries : (named.MSG ≡ pos (offset MsgCount)) × (named.CMD ≡ pos (offset CmdCount)) × (named.STAT ≡ pos (offset StatCount))
  pub segment : named.SEGMENT_0 ≡ pos (offset (SegCount 0))
  pub contexts : (named.CONTEXT_0 ≡ pos (offset (CtxCount 0))) × (named.CONTEXT_1 ≡ pos (offset (CtxCount 1)))
  pub returns : (named.RETURN_0 ≡ pos (offset (CtxReturn 0))) × (named.RETURN_1 ≡ pos (offset (CtxReturn 1)))
