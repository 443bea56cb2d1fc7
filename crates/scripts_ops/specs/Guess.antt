-- The one instruction that words can spell, if they spell one.
use Rattle.std.specs.Prelude.{ℕ, ℤ, pos, negsuc, ◌-◌, ◌/◌, ◌%◌, Bool, nat_lt, nat_le, nat_eq, ◌&&◌, if◌then◌else◌, Option, Some, None}
use Rattle.scripts_ops.specs.declared.values.Op.{Op}
use Rattle.scripts_ops.specs.declared.values.Op.TheVariants.{Move, MoveFrom, Select, WaitDisconnect, WaitReselect, Set, Clear, FromSfbr, ToSfbr, Modify, Put, Jump, Call, Return, Int, IntFly, Nop, MoveMemory, Load, Store}
use Rattle.scripts_ops.specs.declared.values.Condition.{Condition}
use Rattle.scripts_ops.specs.declared.values.Condition.TheVariants.{Always, Phase, Byte}
use Rattle.scripts_ops.specs.declared.values.Change.{Change}
use Rattle.scripts_ops.specs.declared.values.Change.TheVariants.{Or, And, Add}
use Rattle.scripts_ops.specs.declared.values.Address.TheVariants.{At, FromDsa}

-- 24 bits as a signed offset
abbrev pub offset_of : ℕ → ℤ
offset_of n = if nat_lt n 8388608 then pos n else negsuc (16777215 - n)

abbrev pub change_of : ℕ → Change
change_of n = if nat_eq n 2 then Or else if nat_eq n 4 then And else Add

abbrev pub bit_of : ℕ → ℕ → Bool
bit_of low n = nat_eq (low / n % 2) 1

abbrev pub condition_of : ℕ → ℕ → Condition
condition_of code low =
    if bit_of low 0x20000 then Phase (bit_of low 0x10000) (nat_eq (low / 0x80000 % 2) 0) code else
    if bit_of low 0x40000 then Byte (nat_eq (low / 0x80000 % 2) 0) (low / 256 % 256) (low % 256) else Always

-- by the top byte, in four parts
unfoldable pub guessed_move : ℕ → ℕ → ℕ → Option Op
guessed_move top low w1 =
    if nat_le 0x08 top && nat_le top 0x0f then Some (Move low w1 (top - 0x08)) else
    if nat_le 0x18 top && nat_le top 0x1f then Some (MoveFrom (offset_of (w1 % 16777216)) (top - 0x18)) else
    if nat_eq top 0x43 then Some (Select (offset_of low) w1) else
    if nat_eq top 0x48 then Some WaitDisconnect else
    if nat_eq top 0x50 then Some (WaitReselect w1) else
    if nat_eq top 0x58 then Some (Set (bit_of low 64) (bit_of low 8)) else
    if nat_eq top 0x60 then Some (Clear (bit_of low 64) (bit_of low 8)) else
    None

unfoldable pub guessed_register : ℕ → ℕ → Option Op
guessed_register top low =
    if nat_le 0x6a top && nat_le top 0x6e then Some (FromSfbr (change_of (top - 0x68)) (low / 256 % 256) (low / 65536)) else
    if nat_le 0x72 top && nat_le top 0x76 then Some (ToSfbr (low / 65536) (change_of (top - 0x70)) (low / 256 % 256)) else
    if nat_le 0x7a top && nat_le top 0x7e then Some (Modify (low / 65536) (change_of (top - 0x78)) (low / 256 % 256)) else
    if nat_eq top 0x78 then Some (Put (low / 256 % 256) (low / 65536)) else
    None

unfoldable pub guessed_transfer : ℕ → ℕ → ℕ → Option Op
guessed_transfer top low w1 =
    if nat_eq top 0x80 && nat_eq low 0 then Some Nop else
    if nat_le 0x80 top && nat_le top 0x87 then Some (Jump (condition_of (top - 0x80) low) w1) else
    if nat_le 0x88 top && nat_le top 0x8f then Some (Call (condition_of (top - 0x88) low) w1) else
    if nat_le 0x90 top && nat_le top 0x97 then Some (Return (condition_of (top - 0x90) low)) else
    if nat_le 0x98 top && nat_le top 0x9f && bit_of low 0x100000 then Some (IntFly (condition_of (top - 0x98) low)) else
    if nat_le 0x98 top && nat_le top 0x9f then Some (Int (condition_of (top - 0x98) low) w1) else
    None

unfoldable pub guessed_memory : ℕ → ℕ → ℕ → ℕ → Option Op
guessed_memory top low w1 w2 =
    if nat_eq top 0xc0 then Some (MoveMemory low w1 w2) else
    if nat_eq top 0xe1 then Some (Load (low / 65536) (low % 8) (At w1)) else
    if nat_eq top 0xf1 then Some (Load (low / 65536) (low % 8) (FromDsa (offset_of (w1 % 16777216)))) else
    if nat_eq top 0xe0 then Some (Store (low / 65536) (low % 8) (At w1)) else
    if nat_eq top 0xf0 then Some (Store (low / 65536) (low % 8) (FromDsa (offset_of (w1 % 16777216)))) else
    None

unfoldable pub guessed : ℕ → ℕ → ℕ → ℕ → Option Op
guessed top low w1 w2 =
    if nat_lt top 0x68 then guessed_move top low w1 else
    if nat_lt top 0x80 then guessed_register top low else
    if nat_lt top 0xc0 then guessed_transfer top low w1 else
    guessed_memory top low w1 w2
