-- Which tokens have the form of an instruction: each item of the form takes one token.
-- Source: own, the grammar of docs/SCRIPTS.md.
use Rattle.std.specs.Prelude.{◌≡◌, ℕ, Bool, true, false, IsTrue, List, [], ◌∷◌, filter}
use Rattle.scripts_forms.specs.declared.shapes.Shape.{Shape}
use Rattle.scripts_forms.specs.declared.shapes.Item.{Item}
use Rattle.scripts_forms.specs.declared.shapes.Item.TheVariants as item
use Rattle.scripts_forms.specs.Tokens.{Token, Reserved, Mark, Number, Name, Bad}
use Rattle.scripts_forms.specs.Words.{meant}
use Rattle.scripts_forms.specs.Shapes.{items}

abbrev pub is_value : Token → Bool
is_value (Number n) = true
is_value (Name name) = true
is_value _ = false

-- An item takes a token. A value is a number or a name.
abbrev pub Takes : Item → Token → Type 0
Takes (item.Fixed w) t = t ≡ Reserved (meant w)
Takes (item.Mark m) t = t ≡ Mark m
Takes (item.Value most) t = IsTrue (is_value t)

-- Items take tokens one by one, to the end of both.
abbrev pub Matches : List Item → List Token → Type 0
Matches [] [] = Unit {0}
Matches [] (t ∷ ts) = ⊥
Matches (i ∷ is) [] = ⊥
Matches (i ∷ is) (t ∷ ts) = Takes i t × Matches is ts

-- The tokens are an instruction of this form, whatever its values.
abbrev pub HasForm : Shape → List Token → Type 0
HasForm s ts = Matches (items s) ts

-- The values of an instruction, in order.
abbrev pub values_of : List Token → List Token
values_of ts = filter is_value ts
