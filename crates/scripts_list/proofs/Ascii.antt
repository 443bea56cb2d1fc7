-- What a listing writes is ASCII, and an instruction's text begins behind a blank.
use Rattle.std.proofs.Common.{◌≡◌, ℕ, ◌-◌, ◌<◌, ◌≤◌, List, [], ◌∷◌, take, length, drop, get_or, nat_lt, ◌&&◌, Bool, true, false, IsTrue, refl, lit<, arith}
use Rattle.std.proofs.lemmas.Grind.{common_steps}
use Rattle.std.proofs.lemmas.Bool.{and_parts, false≢true}
use Rattle.std.proofs.lemmas.Bool.Decides.{nat_tests}
use Rattle.std.proofs.lemmas.Str.{encode_ascii}
use lib.Utf8.{encode}
use Rattle.scripts_ops.specs.declared.values.Op.{Op}
use Rattle.scripts_ops.specs.declared.values.Op.TheVariants as ops
use Rattle.scripts_ops.specs.declared.values.Change.TheVariants as changes
use Rattle.scripts_ops.specs.Table.{words_of, word_count}
use Rattle.scripts_forms.specs.declared.shapes.On.{On}
use Rattle.scripts_forms.specs.declared.shapes.On.TheVariants as ons
use Rattle.scripts_forms.specs.declared.shapes.Flags.{Flags}
use Rattle.scripts_forms.specs.declared.shapes.Flags.TheVariants as flagsets
use Rattle.scripts_forms.specs.declared.shapes.Shape.{Shape}
use Rattle.scripts_forms.specs.declared.shapes.Shape.TheVariants as shapes
use Rattle.scripts_forms.specs.declared.shapes.Item.{Item}
use Rattle.scripts_forms.specs.declared.shapes.Item.TheVariants as item
use Rattle.scripts_forms.specs.Shapes.{items, condition, flag_items, place}
use Rattle.scripts_asm.specs.Assembled.{words_of_op}
use Rattle.scripts_list.specs.Texts.{printed}
use Rattle.scripts_list.specs.Filled.{are_ascii}

pub ascii_char : (c : ℕ) → c < 128 → encode c ≡ c ∷ []
ascii_char c h = encode_ascii c h

condition_ascii : (on : On) → IsTrue (are_ascii (condition on))
condition_ascii ons.Always = refl
condition_ascii (ons.Phase true true p) = refl
condition_ascii (ons.Phase true false p) = refl
condition_ascii (ons.Phase false true p) = refl
condition_ascii (ons.Phase false false p) = refl
condition_ascii (ons.Byte true true) = refl
condition_ascii (ons.Byte true false) = refl
condition_ascii (ons.Byte false true) = refl
condition_ascii (ons.Byte false false) = refl

flags_ascii : (f : Flags) → IsTrue (are_ascii (flag_items f))
flags_ascii flagsets.Ack = refl
flags_ascii flagsets.Atn = refl
flags_ascii flagsets.Both = refl

place_ascii : (from_dsa : Bool) → IsTrue (are_ascii (place from_dsa))
place_ascii true = refl
place_ascii false = refl

pub items_ascii : (s : Shape) → IsTrue (are_ascii (items s))
items_ascii (shapes.Move p) = refl
items_ascii (shapes.MoveFrom p) = refl
items_ascii shapes.MoveMemory = refl
items_ascii (shapes.Modify r changes.Or s) = refl
items_ascii (shapes.Modify r changes.And s) = refl
items_ascii (shapes.Modify r changes.Add s) = refl
items_ascii (shapes.Put r) = refl
items_ascii shapes.Select = refl
items_ascii shapes.WaitDisconnect = refl
items_ascii shapes.WaitReselect = refl
items_ascii (shapes.Set f) = flags_ascii f
items_ascii (shapes.Clear f) = flags_ascii f
items_ascii (shapes.Jump on) = condition_ascii on
items_ascii (shapes.Call on) = condition_ascii on
items_ascii (shapes.Return on) = condition_ascii on
items_ascii (shapes.Int on) = condition_ascii on
items_ascii (shapes.IntFly on) = condition_ascii on
items_ascii shapes.Nop = refl
items_ascii (shapes.Load r from_dsa) = place_ascii from_dsa
items_ascii (shapes.Store r from_dsa) = place_ascii from_dsa

is_below : (m : ℕ) → nat_lt m 128 ≡ true → m < 128
is_below m h = grind (arith, nat_tests)

pub first_ascii : (is : List Item) (d : Item) (m : ℕ) → 1 ≤ length is → get_or is 0 d ≡ item.Mark m → IsTrue (are_ascii is) → m < 128
first_ascii [] d m l e h = absurd (omega arith)
first_ascii (item.Fixed w ∷ is) d m l e h = absurd (cc)
first_ascii (item.Value most ∷ is) d m l e h = absurd (cc)
first_ascii (item.Mark k ∷ is) d m l e h =
    let (small, more) = and_parts (nat_lt k 128) (are_ascii is) h in
    let same : k ≡ m = cc in
    rw same at (is_below k small)

after_first : (is : List Item) → IsTrue (are_ascii is) → IsTrue (are_ascii (drop 1 is))
after_first [] h = refl
after_first (item.Fixed w ∷ is) h = h
after_first (item.Value most ∷ is) h = h
after_first (item.Mark k ∷ is) h = (and_parts (nat_lt k 128) (are_ascii is) h).1

rest_is : (is : List Item) → take (length is - 1) (drop 1 is) ≡ drop 1 is
rest_is [] = refl
rest_is (i ∷ is) = grind (arith, common_steps)

pub rest_ascii : (is : List Item) → IsTrue (are_ascii is) → IsTrue (are_ascii (take (length is - 1) (drop 1 is)))
rest_ascii is h = rw (rest_is is) (after_first is h)

pub leading_blank : (s : Shape) (ns : List ℕ) → 32 ∷ drop 1 (printed (items s) ns) ≡ printed (items s) ns
leading_blank (shapes.Move p) ns = refl
leading_blank s ns = refl

-- the words of an instruction are the first of its three
pub first_words : (op : Op) → (take (word_count op) (words_of op) ≡ words_of_op op) × (word_count op < 4)
first_words (ops.Move n a p) = (refl, lit< tt)
first_words op = (refl, lit< tt)
