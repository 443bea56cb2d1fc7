-- Which values a form may have, and the instruction that they make. Source: own; the ranges are those of the
-- instruction table.
use Rattle.std.specs.Prelude.{◌≡◌, ℕ, ◌+◌, ◌%◌, ◌<◌, nat_eq, nat_le, Bool, true, false, not, ◌&&◌, if◌then◌else◌, List, [], ◌∷◌, ◌++◌, drop, Option, Some, None, unwrap_or, slice_get, bit_and}
use Rattle.scripts_ops.specs.declared.values.Op.{Op}
use Rattle.scripts_ops.specs.declared.values.Op.TheVariants as ops
use Rattle.scripts_ops.specs.declared.values.Condition.{Condition}
use Rattle.scripts_ops.specs.declared.values.Condition.TheVariants as conditions
use Rattle.scripts_ops.specs.declared.values.Change.{Change}
use Rattle.scripts_ops.specs.declared.values.Address.{Address}
use Rattle.scripts_ops.specs.declared.values.Address.TheVariants.{At, FromDsa}
use Rattle.scripts_ops.specs.Table.{row, is_wide, is_written, is_read}
use Rattle.scripts_ops.specs.Fields.{is_phase}
use Rattle.scripts_ops.specs.Guess.{offset_of}
use Rattle.scripts_forms.specs.declared.shapes.On.{On}
use Rattle.scripts_forms.specs.declared.shapes.On.TheVariants as ons
use Rattle.scripts_forms.specs.declared.shapes.Flags.{Flags}
use Rattle.scripts_forms.specs.declared.shapes.Flags.TheVariants as flagsets
use Rattle.scripts_forms.specs.declared.shapes.Shape.{Shape}
use Rattle.scripts_forms.specs.declared.shapes.Shape.TheVariants as shapes
use Rattle.scripts_forms.specs.declared.shapes.Item.{Item}
use Rattle.scripts_forms.specs.declared.shapes.Item.TheVariants as item
use Rattle.scripts_forms.specs.Lines.{Body, Instruction}

-- A value is known where it is a number or has a name that is given, and it fits its field.
abbrev pub Numbers : Type 0
Numbers = List (Option ℕ)

-- One that isn't there counts as 0.
abbrev pub at : Numbers → ℕ → Option ℕ
at ns i = unwrap_or (slice_get ns i) (Some 0)

abbrev pub number_at : Numbers → ℕ → ℕ
number_at ns i = unwrap_or (at ns i) 0

-- The masked bits of a value are 0.
abbrev pub is_clear : Option ℕ → Option ℕ → Bool
is_clear (Some value) (Some mask) = nat_eq (bit_and mask value) 0
is_clear _ _ = true

abbrev pub allowed_on : On → Numbers → ℕ → Bool
allowed_on ons.Always ns i = true
allowed_on (ons.Phase when not p) ns i = is_phase p
allowed_on (ons.Byte not true) ns i = is_clear (at ns i) (at ns (i + 1))
allowed_on (ons.Byte not false) ns i = true

-- `MOVE r op d TO s`: to SFBR, from SFBR, or the register itself.
abbrev pub allowed_change : ℕ → ℕ → Bool
allowed_change r s = if nat_eq s 8 then is_read r else if nat_eq r 8 then is_written s else nat_eq r s && is_written r

-- A count isn't 0.
abbrev pub is_count : Option ℕ → Bool
is_count None = true
is_count (Some n) = not (nat_eq n 0)

-- So many bytes of a register, from this one on.
abbrev pub is_part : ℕ → Option ℕ → Bool
is_part r None = is_wide r
is_part r (Some n) = is_wide r && not (nat_eq n 0) && nat_le (r % 4 + n) 4

-- Whether the table allows the form with these numbers, as far as they are known.
abbrev pub allowed : Shape → Numbers → Bool
allowed (shapes.Move p) ns = is_phase p && is_count (at ns 0)
allowed (shapes.MoveFrom p) ns = is_phase p
allowed shapes.MoveMemory ns = is_count (at ns 0)
allowed (shapes.Modify r c s) ns = allowed_change r s
allowed (shapes.Put r) ns = is_written r
allowed (shapes.Jump on) ns = allowed_on on ns 1
allowed (shapes.Call on) ns = allowed_on on ns 1
allowed (shapes.Return on) ns = allowed_on on ns 0
allowed (shapes.Int on) ns = allowed_on on ns 1
allowed (shapes.IntFly on) ns = allowed_on on ns 0
allowed (shapes.Load r from_dsa) ns = is_part r (at ns 0)
allowed (shapes.Store r from_dsa) ns = is_part r (at ns 0)
allowed _ ns = true

abbrev pub condition_of : On → Numbers → ℕ → Condition
condition_of ons.Always ns i = conditions.Always
condition_of (ons.Phase when not p) ns i = conditions.Phase when not p
condition_of (ons.Byte not masked) ns i = conditions.Byte not (if masked then number_at ns (i + 1) else 0) (number_at ns i)

abbrev pub change_of : ℕ → Change → ℕ → ℕ → Op
change_of r c s d = if nat_eq s 8 then ops.ToSfbr r c d else if nat_eq r 8 then ops.FromSfbr c d s else ops.Modify s c d

abbrev pub place_of : Bool → ℕ → Address
place_of true n = FromDsa (offset_of n)
place_of false n = At n

abbrev pub has_ack : Flags → Bool
has_ack flagsets.Atn = false
has_ack _ = true

abbrev pub has_atn : Flags → Bool
has_atn flagsets.Ack = false
has_atn _ = true

-- The instruction of a form with these numbers.
abbrev pub op_of : Shape → Numbers → Op
op_of (shapes.Move p) ns = ops.Move (number_at ns 0) (number_at ns 1) p
op_of (shapes.MoveFrom p) ns = ops.MoveFrom (offset_of (number_at ns 0)) p
op_of shapes.MoveMemory ns = ops.MoveMemory (number_at ns 0) (number_at ns 1) (number_at ns 2)
op_of (shapes.Modify r c s) ns = change_of r c s (number_at ns 0)
op_of (shapes.Put r) ns = ops.Put (number_at ns 0) r
op_of shapes.Select ns = ops.Select (offset_of (number_at ns 0)) (number_at ns 1)
op_of shapes.WaitDisconnect ns = ops.WaitDisconnect
op_of shapes.WaitReselect ns = ops.WaitReselect (number_at ns 0)
op_of (shapes.Set f) ns = ops.Set (has_ack f) (has_atn f)
op_of (shapes.Clear f) ns = ops.Clear (has_ack f) (has_atn f)
op_of (shapes.Jump on) ns = ops.Jump (condition_of on ns 1) (number_at ns 0)
op_of (shapes.Call on) ns = ops.Call (condition_of on ns 1) (number_at ns 0)
op_of (shapes.Return on) ns = ops.Return (condition_of on ns 0)
op_of (shapes.Int on) ns = ops.Int (condition_of on ns 1) (number_at ns 0)
op_of (shapes.IntFly on) ns = ops.IntFly (condition_of on ns 0)
op_of shapes.Nop ns = ops.Nop
op_of (shapes.Load r from_dsa) ns = ops.Load r (number_at ns 0) (place_of from_dsa (number_at ns 1))
op_of (shapes.Store r from_dsa) ns = ops.Store r (number_at ns 0) (place_of from_dsa (number_at ns 1))

-- The numbers fit their fields.
abbrev pub AreBytes : On → Numbers → ℕ → Type 0
AreBytes (ons.Byte not true) ns i = (number_at ns i < 256) × (number_at ns (i + 1) < 256)
AreBytes (ons.Byte not false) ns i = number_at ns i < 256
AreBytes _ ns i = Unit {0}

abbrev pub AllFit : Shape → Numbers → Type 0
AllFit (shapes.Move p) ns = number_at ns 0 < 16777216
AllFit (shapes.MoveFrom p) ns = number_at ns 0 < 16777216
AllFit shapes.MoveMemory ns = number_at ns 0 < 16777216
AllFit (shapes.Modify r c s) ns = number_at ns 0 < 256
AllFit (shapes.Put r) ns = number_at ns 0 < 256
AllFit shapes.Select ns = number_at ns 0 < 16777216
AllFit (shapes.Jump on) ns = AreBytes on ns 1
AllFit (shapes.Call on) ns = AreBytes on ns 1
AllFit (shapes.Return on) ns = AreBytes on ns 0
AllFit (shapes.Int on) ns = AreBytes on ns 1
AllFit (shapes.IntFly on) ns = AreBytes on ns 0
AllFit (shapes.Load r true) ns = (number_at ns 0 < 8) × (number_at ns 1 < 16777216)
AllFit (shapes.Load r false) ns = number_at ns 0 < 8
AllFit (shapes.Store r true) ns = (number_at ns 0 < 8) × (number_at ns 1 < 16777216)
AllFit (shapes.Store r false) ns = number_at ns 0 < 8
AllFit _ ns = Unit {0}

abbrev pub Fits : Body → Numbers → Type 0
Fits (Instruction s vs) ns = AllFit s ns
Fits _ ns = Unit {0}
