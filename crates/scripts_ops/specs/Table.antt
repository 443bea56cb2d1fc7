-- The instruction table: what the chip executes, one clause for each row. It follows the programming guide of the
-- Symbios SYM53C810A (SCRIPTS: block moves, I/O, read/write, transfer control, memory moves, load and store); the
-- selection of rows and what their fields may be are this project's own. A bit that a row doesn't name is 0.
use Rattle.std.specs.Prelude.{List, [], ◌∷◌, unwrap_or, ◌≡◌, ◌≢◌, ℕ, ℤ, pos, negsuc, ◌+◌, ◌-◌, ◌*◌, ◌<◌, ◌≤◌, ◌%◌, Bool, IsTrue, ◌||◌, ◌&&◌, nat_eq, nat_le, if◌then◌else◌, Option, Some, None, IfSome, bit_and}
use Rattle.scripts_ops.specs.declared.values.Op.{Op}
use Rattle.scripts_ops.specs.declared.values.Op.TheVariants.{Move, MoveFrom, Select, WaitDisconnect, WaitReselect, Set, Clear, FromSfbr, ToSfbr, Modify, Put, Jump, Call, Return, Int, IntFly, Nop, MoveMemory, Load, Store}
use Rattle.scripts_ops.specs.declared.values.Condition.{Condition}
use Rattle.scripts_ops.specs.declared.values.Condition.TheVariants.{Always, Phase, Byte}
use Rattle.scripts_ops.specs.declared.values.Change.{Change}
use Rattle.scripts_ops.specs.declared.values.Change.TheVariants.{Or, And, Add}
use Rattle.scripts_ops.specs.declared.values.Address.{Address}
use Rattle.scripts_ops.specs.declared.values.Address.TheVariants.{At, FromDsa}

-- a word with this top byte and these 24 bits below it
abbrev pub word : ℕ → ℕ → ℕ
word top low = top * 16777216 + low

-- the codes of the bus phases: 0 DATA_OUT, 1 DATA_IN, 2 COMMAND, 3 STATUS, 6 MSG_OUT, 7 MSG_IN
abbrev pub IsPhase : ℕ → Type 0
IsPhase p = (p < 8) × (p ≢ 4) × (p ≢ 5)

-- an offset of 24 bits with sign, and those bits in two's complement
abbrev pub IsOffset : ℤ → Type 0
IsOffset (pos n) = n < 8388608
IsOffset (negsuc n) = n < 8388608

abbrev pub offset_bits : ℤ → ℕ
offset_bits (pos n) = n
offset_bits (negsuc n) = 16777215 - n

-- a flag that stands for so much
abbrev pub flag : Bool → ℕ → ℕ
flag b n = if b then n else 0

-- SET and CLEAR name ACK by bit 6 and ATN by bit 3
abbrev pub flags : Bool → Bool → ℕ
flags ack atn = flag ack 0x40 + flag atn 0x08

-- what a register form does with its two bytes
abbrev pub change_code : Change → ℕ
change_code Or = 2
change_code And = 4
change_code Add = 6

-- the places of DSA, TEMP, SCRATCHA and SCRATCHB, four bytes each
abbrev pub is_wide : ℕ → Bool
is_wide r = nat_le 0x10 r && nat_le r 0x13 || nat_le 0x1c r && nat_le r 0x1f || nat_le 0x34 r && nat_le r 0x37 || nat_le 0x5c r && nat_le r 0x5f

-- the places that a register form writes: SCNTL0, SCNTL3, SXFER, SDID, SFBR and the wide registers; it reads these
-- and SSID and CTEST2
abbrev pub is_written : ℕ → Bool
is_written r = nat_eq r 0x00 || nat_eq r 0x03 || nat_eq r 0x05 || nat_eq r 0x06 || nat_eq r 0x08 || is_wide r

abbrev pub is_read : ℕ → Bool
is_read r = is_written r || nat_eq r 0x0a || nat_eq r 0x1a

-- a register form has the place from bit 16 on and the byte from bit 8 on
abbrev pub register_bits : ℕ → ℕ → ℕ
register_bits r d = r * 65536 + d * 256

-- A condition has a code in the low bits of the top byte, and bits below: bit 19 is clear for NOT; bit 17 compares
-- the phase, with bit 16 for WHEN; bit 18 compares SFBR with bits 7 to 0 under the mask in bits 15 to 8.
abbrev pub condition_code : Condition → ℕ
condition_code Always = 0
condition_code (Phase when not code) = code
condition_code (Byte not mask value) = 0

abbrev pub condition_bits : Condition → ℕ
condition_bits Always = 0x80000
condition_bits (Phase when not code) = 0x20000 + flag when 0x10000 + (if not then 0 else 0x80000)
condition_bits (Byte not mask value) = 0x40000 + (if not then 0 else 0x80000) + mask * 256 + value

abbrev pub IsCondition : Condition → Type 0
IsCondition Always = Unit {0}
IsCondition (Phase when not code) = IsPhase code
IsCondition (Byte not mask value) = (mask < 256) × (value < 256) × (bit_and mask value ≡ 0)

-- so many bytes of a wide register, from one of its bytes on
abbrev pub IsPart : ℕ → ℕ → Type 0
IsPart r n = IsTrue (is_wide r) × (0 < n) × (r % 4 + n ≤ 4)

abbrev pub IsAddress : Address → Type 0
IsAddress (At a) = Unit {0}
IsAddress (FromDsa o) = IsOffset o

abbrev pub address_top : Address → ℕ
address_top (At a) = 0xe0
address_top (FromDsa o) = 0xf0

abbrev pub address_bits : Address → ℕ
address_bits (At a) = a
address_bits (FromDsa o) = offset_bits o

-- A row: what the fields of its instruction may be, and its words. MOVE MEMORY alone has a third.
pub record Row : Type 1 where
  pub fields : Type 0
  pub first : ℕ
  pub second : ℕ
  pub third : Option ℕ

abbrev pub row : Op → Row
row (Move n a p) = record { fields = IsPhase p × (0 < n) × (n < 16777216); first = word (0x08 + p) n; second = a; third = None }
row (MoveFrom o p) = record { fields = IsPhase p × IsOffset o; first = word (0x18 + p) 0; second = offset_bits o; third = None }
row (Select o alt) = record { fields = IsOffset o; first = word 0x43 (offset_bits o); second = alt; third = None }
row WaitDisconnect = record { fields = Unit {0}; first = 0x48000000; second = 0; third = None }
row (WaitReselect alt) = record { fields = Unit {0}; first = 0x50000000; second = alt; third = None }
row (Set ack atn) = record { fields = IsTrue (ack || atn); first = word 0x58 (flags ack atn); second = 0; third = None }
row (Clear ack atn) = record { fields = IsTrue (ack || atn); first = word 0x60 (flags ack atn); second = 0; third = None }
row (FromSfbr c d r) = record { fields = IsTrue (is_written r) × (r ≢ 8) × (d < 256); first = word (0x68 + change_code c) (register_bits r d); second = 0; third = None }
row (ToSfbr r c d) = record { fields = IsTrue (is_read r) × (d < 256); first = word (0x70 + change_code c) (register_bits r d); second = 0; third = None }
row (Modify r c d) = record { fields = IsTrue (is_written r) × (r ≢ 8) × (d < 256); first = word (0x78 + change_code c) (register_bits r d); second = 0; third = None }
row (Put d r) = record { fields = IsTrue (is_written r) × (d < 256); first = word 0x78 (register_bits r d); second = 0; third = None }
row (Jump on a) = record { fields = IsCondition on; first = word (0x80 + condition_code on) (condition_bits on); second = a; third = None }
row (Call on a) = record { fields = IsCondition on; first = word (0x88 + condition_code on) (condition_bits on); second = a; third = None }
row (Return on) = record { fields = IsCondition on; first = word (0x90 + condition_code on) (condition_bits on); second = 0; third = None }
row (Int on v) = record { fields = IsCondition on; first = word (0x98 + condition_code on) (condition_bits on); second = v; third = None }
row (IntFly on) = record { fields = IsCondition on; first = word (0x98 + condition_code on) (condition_bits on + 0x100000); second = 0; third = None }
row Nop = record { fields = Unit {0}; first = 0x80000000; second = 0; third = None }
row (MoveMemory n s t) = record { fields = (0 < n) × (n < 16777216); first = word 0xc0 n; second = s; third = Some t }
row (Load r n place) = record { fields = IsPart r n × IsAddress place; first = word (address_top place + 1) (r * 65536 + n); second = address_bits place; third = None }
row (Store r n place) = record { fields = IsPart r n × IsAddress place; first = word (address_top place) (r * 65536 + n); second = address_bits place; third = None }

-- The words of an instruction, with 0 for the third where its row has two, and how many there are.
abbrev pub words_of : Op → List ℕ
words_of op = (row op).first ∷ (row op).second ∷ unwrap_or (row op).third 0 ∷ []

abbrev pub word_count : Op → ℕ
word_count (MoveMemory n s t) = 3
word_count op = 2

-- The row of this instruction spells these words. The third word counts only where the row has one.
pub record Spelled (w0 w1 w2 : ℕ) (op : Op) : Type 0 where
  pub fields : (row op).fields
  pub first : w0 ≡ (row op).first
  pub second : w1 ≡ (row op).second
  pub third : IfSome (row op).third (λ w. w2 ≡ w)
