-- The reserved words of the assembler, each with its one spelling: the words of the forms, the bus phases (SCSI-2,
-- 5.1, by the code that the lines MSG, C/D and I/O make), and the registers (after the SYM53C810A, by their place).
use Rattle.std.specs.Prelude.{◌≡◌, ℕ, nat_eq, Bool, true, false, ◌||◌, if◌then◌else◌, List, [], ◌∷◌, ◌++◌, Option, Some, None, codes, bytes_eq, map}
use Rattle.scripts_forms.specs.declared.words.Key.{Key}
use Rattle.scripts_forms.specs.declared.words.Key.TheVariants.{Absolute, Ack, And, Atn, Call, Clear, Disconnect, From, If, Int, IntFly, Jump, Load, Mask, Memory, Move, Nop, Not, Reselect, Return, Select, Set, Store, To, Wait, When}
use Rattle.scripts_forms.specs.declared.words.Word.{Word}
use Rattle.scripts_forms.specs.declared.words.Word.TheVariants as word

abbrev pub key_text : Key → List ℕ
key_text Absolute = codes "ABSOLUTE"
key_text Ack = codes "ACK"
key_text And = codes "AND"
key_text Atn = codes "ATN"
key_text Call = codes "CALL"
key_text Clear = codes "CLEAR"
key_text Disconnect = codes "DISCONNECT"
key_text From = codes "FROM"
key_text If = codes "IF"
key_text Int = codes "INT"
key_text IntFly = codes "INTFLY"
key_text Jump = codes "JUMP"
key_text Load = codes "LOAD"
key_text Mask = codes "MASK"
key_text Memory = codes "MEMORY"
key_text Move = codes "MOVE"
key_text Nop = codes "NOP"
key_text Not = codes "NOT"
key_text Reselect = codes "RESELECT"
key_text Return = codes "RETURN"
key_text Select = codes "SELECT"
key_text Set = codes "SET"
key_text Store = codes "STORE"
key_text To = codes "TO"
key_text Wait = codes "WAIT"
key_text When = codes "WHEN"

-- A phase by its code; 4 and 5 are reserved and have no name.
abbrev pub phase_text : ℕ → List ℕ
phase_text p =
    if nat_eq p 0 then codes "DATA_OUT" else if nat_eq p 1 then codes "DATA_IN" else if nat_eq p 2 then codes "COMMAND" else
    if nat_eq p 3 then codes "STATUS" else if nat_eq p 6 then codes "MSG_OUT" else if nat_eq p 7 then codes "MSG_IN" else []

-- A register byte by its place, from 0x24 on.
abbrev pub late_register_text : ℕ → List ℕ
late_register_text r =
    if nat_eq r 0x24 then codes "DBC" else if nat_eq r 0x27 then codes "DCMD" else if nat_eq r 0x28 then codes "DNAD" else
    if nat_eq r 0x2c then codes "DSP" else if nat_eq r 0x30 then codes "DSPS" else
    if nat_eq r 0x34 then codes "SCRATCHA0" else if nat_eq r 0x35 then codes "SCRATCHA1" else if nat_eq r 0x36 then codes "SCRATCHA2" else if nat_eq r 0x37 then codes "SCRATCHA3" else
    if nat_eq r 0x42 then codes "SIST0" else if nat_eq r 0x43 then codes "SIST1" else
    if nat_eq r 0x5c then codes "SCRATCHB0" else if nat_eq r 0x5d then codes "SCRATCHB1" else if nat_eq r 0x5e then codes "SCRATCHB2" else if nat_eq r 0x5f then codes "SCRATCHB3" else []

-- A register byte by its place.
abbrev pub register_text : ℕ → List ℕ
register_text r =
    if nat_eq r 0x00 then codes "SCNTL0" else if nat_eq r 0x01 then codes "SCNTL1" else if nat_eq r 0x03 then codes "SCNTL3" else
    if nat_eq r 0x05 then codes "SXFER" else if nat_eq r 0x06 then codes "SDID" else if nat_eq r 0x08 then codes "SFBR" else
    if nat_eq r 0x0a then codes "SSID" else if nat_eq r 0x0c then codes "DSTAT" else
    if nat_eq r 0x10 then codes "DSA0" else if nat_eq r 0x11 then codes "DSA1" else if nat_eq r 0x12 then codes "DSA2" else if nat_eq r 0x13 then codes "DSA3" else
    if nat_eq r 0x14 then codes "ISTAT" else if nat_eq r 0x1a then codes "CTEST2" else
    if nat_eq r 0x1c then codes "TEMP0" else if nat_eq r 0x1d then codes "TEMP1" else if nat_eq r 0x1e then codes "TEMP2" else if nat_eq r 0x1f then codes "TEMP3" else
    late_register_text r

-- A register of four bytes by the place of its byte 0.
abbrev pub whole_text : ℕ → List ℕ
whole_text r = if nat_eq r 0x10 then codes "DSA" else if nat_eq r 0x1c then codes "TEMP" else if nat_eq r 0x34 then codes "SCRATCHA" else if nat_eq r 0x5c then codes "SCRATCHB" else []

-- How a word is spelled.
abbrev pub spelling : Word → List ℕ
spelling (word.Key k) = key_text k
spelling (word.Phase p) = phase_text p
spelling (word.Register r) = register_text r
spelling (word.Whole r) = whole_text r

-- What a word says: the name of a register of four bytes means its byte 0.
abbrev pub meant : Word → Word
meant (word.Key k) = word.Key k
meant (word.Phase p) = word.Phase p
meant (word.Register r) = word.Register r
meant (word.Whole r) = word.Register r

-- All the reserved words.
abbrev pub words : List Word
words =
    map word.Key (Absolute ∷ Ack ∷ And ∷ Atn ∷ Call ∷ Clear ∷ Disconnect ∷ From ∷ If ∷ Int ∷ IntFly ∷ Jump ∷ Load ∷ Mask ∷ Memory ∷ Move ∷ Nop ∷ Not ∷ Reselect ∷ Return ∷ Select ∷ Set ∷ Store ∷ To ∷ Wait ∷ When ∷ [])
    ++ map word.Phase (0 ∷ 1 ∷ 2 ∷ 3 ∷ 6 ∷ 7 ∷ [])
    ++ map word.Register (0x00 ∷ 0x01 ∷ 0x03 ∷ 0x05 ∷ 0x06 ∷ 0x08 ∷ 0x0a ∷ 0x0c ∷ 0x10 ∷ 0x11 ∷ 0x12 ∷ 0x13 ∷ 0x14 ∷ 0x1a ∷ 0x1c ∷ 0x1d ∷ 0x1e ∷ 0x1f ∷ 0x24 ∷ 0x27 ∷ 0x28 ∷ 0x2c ∷ 0x30 ∷ 0x34 ∷ 0x35 ∷ 0x36 ∷ 0x37 ∷ 0x42 ∷ 0x43 ∷ 0x5c ∷ 0x5d ∷ 0x5e ∷ 0x5f ∷ [])
    ++ map word.Whole (0x10 ∷ 0x1c ∷ 0x34 ∷ 0x5c ∷ [])

-- The first of the words that is spelled so.
abbrev pub found : List Word → List ℕ → Option Word
found [] run = None
found (w ∷ ws) run = if bytes_eq (spelling w) run then Some w else found ws run

-- The reserved word that a run of letters is, if it is one.
unfoldable pub word_of : List ℕ → Option Word
word_of run = found words run
