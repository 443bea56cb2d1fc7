-- The data moves are those of the script (own).
use Rattle.std.specs.Prelude.{◌≡◌, ℕ, pos, ◌*◌, ◌/◌, ◌%◌, ◌<◌, Bool, false, nat_lt, Some, None}
use Rattle.scripts_ops.specs.declared.values.Op.{Op}
use Rattle.scripts_ops.specs.declared.values.Op.TheVariants.{Move, MoveFrom}
use Rattle.cmd_block.specs.Block.{offset}
use Rattle.driver_script.specs.Script.{instruction}
use Rattle.phase_fix.specs.declared.moves.DataPhase.{DataPhase}
use Rattle.phase_fix.specs.declared.moves.DataPhase.TheVariants.{In, Out}
use Rattle.phase_fix.specs.declared.moves.DataMove.{DataMove}
use Rattle.phase_fix.specs.Moves.{count_field, move_at}

-- the code of a phase (SYM53C810A: bits 26 to 24 of an instruction)
abbrev pub phase_code : DataPhase → ℕ
phase_code In = 1
phase_code Out = 0

-- the instruction of a data move: MOVE FROM its entry, WHEN its phase
abbrev pub instruction_of : DataMove → Op
instruction_of x = MoveFrom (pos (offset (count_field x.entry))) (phase_code x.phase)

-- whether an instruction moves bytes in a data phase
abbrev pub is_data : Op → Bool
is_data (Move n a p) = nat_lt p 2
is_data (MoveFrom o p) = nat_lt p 2
is_data op = false

-- a version of the script has this data move at an address
pub record StandsAt (version a : ℕ) (x : DataMove) : Type 0 where
  pub aligned : a % 8 ≡ 0
  pub within : a / 8 < 151
  pub stands : instruction (a / 8) version ≡ instruction_of x

-- where there is a data move, the script has its instruction
abbrev pub FindsMoves : Type 0
FindsMoves = (a version : ℕ) (x : DataMove) → move_at a ≡ Some x → StandsAt version a x

-- where there is none, the script's instruction moves nothing in a data phase
abbrev pub MissesNone : Type 0
MissesNone = (k version : ℕ) → k < 151 → move_at (8 * k) ≡ None → is_data (instruction k version) ≡ false
