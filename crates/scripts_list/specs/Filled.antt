-- The tokens of a form with numbers for its values, and when the numbers fit. No public contract rests on these.
use Rattle.std.specs.Prelude.{◌≡◌, ℕ, ◌≤◌, ◌<◌, nat_lt, Bool, true, ◌&&◌, List, [], ◌∷◌}
use Rattle.scripts_forms.specs.declared.shapes.Item.{Item}
use Rattle.scripts_forms.specs.declared.shapes.Item.TheVariants as item
use Rattle.scripts_forms.specs.Words.{meant}
use Rattle.scripts_forms.specs.Tokens.{Token, Reserved, Mark, Number}

abbrev pub filled : List Item → List ℕ → List Token
filled [] ns = []
filled (item.Fixed w ∷ is) ns = Reserved (meant w) ∷ filled is ns
filled (item.Mark m ∷ is) ns = Mark m ∷ filled is ns
filled (item.Value most ∷ is) [] = []
filled (item.Value most ∷ is) (n ∷ ns) = Number n ∷ filled is ns

-- As many numbers as values, and each fits its field.
abbrev pub FitsHoles : List Item → List ℕ → Type 0
FitsHoles [] [] = Unit {0}
FitsHoles [] (n ∷ ns) = ⊥
FitsHoles (item.Fixed w ∷ is) ns = FitsHoles is ns
FitsHoles (item.Mark m ∷ is) ns = FitsHoles is ns
FitsHoles (item.Value most ∷ is) [] = ⊥
FitsHoles (item.Value most ∷ is) (n ∷ ns) = (n ≤ most) × (n < 4294967296) × FitsHoles is ns

-- Each mark is ASCII, so it is one byte of a text.
abbrev pub are_ascii : List Item → Bool
are_ascii [] = true
are_ascii (item.Fixed w ∷ is) = are_ascii is
are_ascii (item.Mark m ∷ is) = nat_lt m 128 && are_ascii is
are_ascii (item.Value most ∷ is) = are_ascii is
