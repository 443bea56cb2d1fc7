-- The one form that tokens can have, if they have one: it is guessed from a few of them, and the program then
-- checks it against the items of the form. No public contract rests on the guess.
use Rattle.std.specs.Prelude.{◌≡◌, ℕ, ◌+◌, nat_eq, nat_le, nat_lt, Bool, true, false, if◌then◌else◌, List, [], ◌∷◌, length, Option, Some, None, slice_get}
use Rattle.scripts_ops.specs.declared.values.Change.{Change}
use Rattle.scripts_ops.specs.declared.values.Change.TheVariants as changes
use Rattle.scripts_forms.specs.declared.words.Key.{Key}
use Rattle.scripts_forms.specs.declared.words.Key.TheVariants as keys
use Rattle.scripts_forms.specs.declared.words.Word.TheVariants as word
use Rattle.scripts_forms.specs.declared.shapes.On.{On}
use Rattle.scripts_forms.specs.declared.shapes.On.TheVariants as ons
use Rattle.scripts_forms.specs.declared.shapes.Flags.{Flags}
use Rattle.scripts_forms.specs.declared.shapes.Flags.TheVariants as flagsets
use Rattle.scripts_forms.specs.declared.shapes.Shape.{Shape}
use Rattle.scripts_forms.specs.declared.shapes.Shape.TheVariants as shapes
use Rattle.scripts_forms.specs.Tokens.{Token, Reserved, Mark}

abbrev pub key_of : Option Token → Option Key
key_of (Some (Reserved (word.Key k))) = Some k
key_of _ = None

abbrev pub phase_of : Option Token → Option ℕ
phase_of (Some (Reserved (word.Phase p))) = Some p
phase_of _ = None

abbrev pub register_of : Option Token → Option ℕ
register_of (Some (Reserved (word.Register r))) = Some r
register_of _ = None

abbrev pub mark_of : Option Token → ℕ
mark_of (Some (Mark m)) = m
mark_of _ = 0

abbrev pub known : Option ℕ → ℕ
known (Some n) = n
known None = 0

abbrev pub is_not : Option Key → Bool
is_not (Some keys.Not) = true
is_not _ = false

abbrev pub is_when : Option Key → Bool
is_when (Some keys.When) = true
is_when _ = false

abbrev pub is_from : Option Key → Bool
is_from (Some keys.From) = true
is_from _ = false

abbrev pub on_from : Bool → Bool → Option ℕ → Bool → On
on_from when not (Some p) masked = ons.Phase when not p
on_from when not None masked = ons.Byte not masked

unfoldable pub on_at : List Token → ℕ → On
on_at ts i =
    if nat_le (length ts) i then ons.Always else
    (let not = is_not (key_of (slice_get ts (i + 2))) in
    let at = (if not then i + 3 else i + 2) in
    on_from (is_when (key_of (slice_get ts (i + 1)))) not (phase_of (slice_get ts at)) (nat_lt (at + 1) (length ts)))

abbrev pub change_from : ℕ → Change
change_from m = if nat_eq m 124 then changes.Or else if nat_eq m 38 then changes.And else changes.Add

abbrev pub flags_from : Option Key → Option Key → Flags
flags_from (Some keys.Atn) second = flagsets.Atn
flags_from _ (Some keys.And) = flagsets.Both
flags_from _ _ = flagsets.Ack

abbrev pub wait_from : Option Key → Shape
wait_from (Some keys.Disconnect) = shapes.WaitDisconnect
wait_from _ = shapes.WaitReselect

abbrev pub is_to : Option Key → Bool
is_to (Some keys.To) = true
is_to _ = false

abbrev pub move_from : Option ℕ → List Token → Shape
move_from (Some r) ts = shapes.Modify r (change_from (mark_of (slice_get ts 2))) (known (register_of (slice_get ts 5)))
move_from None ts =
    if is_to (key_of (slice_get ts 2)) then shapes.Put (known (register_of (slice_get ts 3))) else
    shapes.Move (known (phase_of (slice_get ts 6)))

abbrev pub moved : Option Key → List Token → Shape
moved (Some keys.From) ts = shapes.MoveFrom (known (phase_of (slice_get ts 5)))
moved (Some keys.Memory) ts = shapes.MoveMemory
moved _ ts = move_from (register_of (slice_get ts 1)) ts

abbrev pub guessed_by : Option Key → List Token → Option Shape
guessed_by (Some keys.Move) ts = Some (moved (key_of (slice_get ts 1)) ts)
guessed_by (Some keys.Select) ts = Some shapes.Select
guessed_by (Some keys.Wait) ts = Some (wait_from (key_of (slice_get ts 1)))
guessed_by (Some keys.Set) ts = Some (shapes.Set (flags_from (key_of (slice_get ts 1)) (key_of (slice_get ts 2))))
guessed_by (Some keys.Clear) ts = Some (shapes.Clear (flags_from (key_of (slice_get ts 1)) (key_of (slice_get ts 2))))
guessed_by (Some keys.Jump) ts = Some (shapes.Jump (on_at ts 2))
guessed_by (Some keys.Call) ts = Some (shapes.Call (on_at ts 2))
guessed_by (Some keys.Return) ts = Some (shapes.Return (on_at ts 1))
guessed_by (Some keys.Int) ts = Some (shapes.Int (on_at ts 2))
guessed_by (Some keys.IntFly) ts = Some (shapes.IntFly (on_at ts 1))
guessed_by (Some keys.Nop) ts = Some shapes.Nop
guessed_by (Some keys.Load) ts = Some (shapes.Load (known (register_of (slice_get ts 1))) (is_from (key_of (slice_get ts 5))))
guessed_by (Some keys.Store) ts = Some (shapes.Store (known (register_of (slice_get ts 1))) (is_from (key_of (slice_get ts 5))))
guessed_by _ ts = None

unfoldable pub guessed : List Token → Option Shape
guessed ts = guessed_by (key_of (slice_get ts 0)) ts
