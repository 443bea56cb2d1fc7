-- The text of an instruction: the items of its form, with its numbers for the values. Source: own, the listing of
-- docs/SCRIPTS.md.
use Rattle.std.specs.Prelude.{◌≡◌, ℕ, ◌+◌, nat_eq, nat_lt, Bool, true, false, ◌&&◌, if◌then◌else◌, List, [], ◌∷◌, ◌++◌, drop, codes}
use Rattle.std.specs.Fmt.{digits}
use Rattle.scripts_ops.specs.declared.values.Op.{Op}
use Rattle.scripts_ops.specs.declared.values.Op.TheVariants as ops
use Rattle.scripts_ops.specs.declared.values.Condition.{Condition}
use Rattle.scripts_ops.specs.declared.values.Condition.TheVariants as conditions
use Rattle.scripts_ops.specs.declared.values.Address.{Address}
use Rattle.scripts_ops.specs.declared.values.Address.TheVariants.{At, FromDsa}
use Rattle.scripts_ops.specs.Table.{offset_bits}
use Rattle.scripts_forms.specs.declared.shapes.On.{On}
use Rattle.scripts_forms.specs.declared.shapes.On.TheVariants as ons
use Rattle.scripts_forms.specs.declared.shapes.Flags.{Flags}
use Rattle.scripts_forms.specs.declared.shapes.Flags.TheVariants as flagsets
use Rattle.scripts_forms.specs.declared.shapes.Shape.{Shape}
use Rattle.scripts_forms.specs.declared.shapes.Shape.TheVariants as shapes
use Rattle.scripts_forms.specs.declared.shapes.Item.{Item}
use Rattle.scripts_forms.specs.declared.shapes.Item.TheVariants as item
use Rattle.scripts_forms.specs.Words.{spelling}
use Rattle.scripts_forms.specs.Shapes.{items}

-- `AND MASK` is shown only where the mask isn't 0.
abbrev pub on_of : Condition → On
on_of conditions.Always = ons.Always
on_of (conditions.Phase when not p) = ons.Phase when not p
on_of (conditions.Byte not mask value) = ons.Byte not (nat_lt 0 mask)

abbrev pub flags_of : Bool → Bool → Flags
flags_of true true = flagsets.Both
flags_of true false = flagsets.Ack
flags_of false _ = flagsets.Atn

abbrev pub is_from_dsa : Address → Bool
is_from_dsa (At a) = false
is_from_dsa (FromDsa o) = true

-- The form that shows an instruction.
abbrev pub shape_of : Op → Shape
shape_of (ops.Move n a p) = shapes.Move p
shape_of (ops.MoveFrom o p) = shapes.MoveFrom p
shape_of (ops.Select o a) = shapes.Select
shape_of ops.WaitDisconnect = shapes.WaitDisconnect
shape_of (ops.WaitReselect a) = shapes.WaitReselect
shape_of (ops.Set ack atn) = shapes.Set (flags_of ack atn)
shape_of (ops.Clear ack atn) = shapes.Clear (flags_of ack atn)
shape_of (ops.FromSfbr c d r) = shapes.Modify 8 c r
shape_of (ops.ToSfbr r c d) = shapes.Modify r c 8
shape_of (ops.Modify r c d) = shapes.Modify r c r
shape_of (ops.Put d r) = shapes.Put r
shape_of (ops.Jump on a) = shapes.Jump (on_of on)
shape_of (ops.Call on a) = shapes.Call (on_of on)
shape_of (ops.Return on) = shapes.Return (on_of on)
shape_of (ops.Int on v) = shapes.Int (on_of on)
shape_of (ops.IntFly on) = shapes.IntFly (on_of on)
shape_of ops.Nop = shapes.Nop
shape_of (ops.MoveMemory n s t) = shapes.MoveMemory
shape_of (ops.Load r n place) = shapes.Load r (is_from_dsa place)
shape_of (ops.Store r n place) = shapes.Store r (is_from_dsa place)

abbrev pub condition_values : Condition → List ℕ
condition_values conditions.Always = []
condition_values (conditions.Phase when not p) = []
condition_values (conditions.Byte not mask value) = value ∷ (if nat_lt 0 mask then mask ∷ [] else [])

abbrev pub place_value : Address → ℕ
place_value (At a) = a
place_value (FromDsa o) = offset_bits o

-- The numbers that it shows, in order; a signed offset is shown as its 24 bits.
abbrev pub values_of : Op → List ℕ
values_of (ops.Move n a p) = n ∷ a ∷ []
values_of (ops.MoveFrom o p) = offset_bits o ∷ []
values_of (ops.Select o a) = offset_bits o ∷ a ∷ []
values_of ops.WaitDisconnect = []
values_of (ops.WaitReselect a) = a ∷ []
values_of (ops.Set ack atn) = []
values_of (ops.Clear ack atn) = []
values_of (ops.FromSfbr c d r) = d ∷ []
values_of (ops.ToSfbr r c d) = d ∷ []
values_of (ops.Modify r c d) = d ∷ []
values_of (ops.Put d r) = d ∷ []
values_of (ops.Jump on a) = a ∷ condition_values on
values_of (ops.Call on a) = a ∷ condition_values on
values_of (ops.Return on) = condition_values on
values_of (ops.Int on v) = v ∷ condition_values on
values_of (ops.IntFly on) = condition_values on
values_of ops.Nop = []
values_of (ops.MoveMemory n s t) = n ∷ s ∷ t ∷ []
values_of (ops.Load r n place) = n ∷ place_value place ∷ []
values_of (ops.Store r n place) = n ∷ place_value place ∷ []

-- `0x` and lower-case digits without leading zeros.
abbrev pub number_text : ℕ → List ℕ
number_text n = codes "0x" ++ digits 16 false n

-- A comma stands behind no blank.
abbrev pub mark_text : ℕ → List ℕ
mark_text m = if nat_eq m 44 then m ∷ [] else 32 ∷ m ∷ []

-- Items as text, each behind a blank, but a comma behind none.
abbrev pub printed : List Item → List ℕ → List ℕ
printed [] ns = []
printed (item.Fixed w ∷ is) ns = 32 ∷ spelling w ++ printed is ns
printed (item.Mark m ∷ is) ns = mark_text m ++ printed is ns
printed (item.Value most ∷ is) [] = []
printed (item.Value most ∷ is) (n ∷ ns) = 32 ∷ number_text n ++ printed is ns

-- The text of an instruction begins with its first word.
unfoldable pub text_of : Op → List ℕ
text_of op = drop 1 (printed (items (shape_of op)) (values_of op))
