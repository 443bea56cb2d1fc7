-- The lines of a text: how each is read. A relation, with no parser in it. Source: own, the grammar of docs/SCRIPTS.md.
use Rattle.std.specs.Prelude.{◌≡◌, ◌≢◌, ℕ, nat_eq, Bool, true, false, if◌then◌else◌, List, [], ◌∷◌, Option, Some, None, slice_get, unwrap_or}
use Rattle.std.specs.List.{list_any, slice_split}
use Rattle.scripts_forms.specs.declared.words.Key.TheVariants as keys
use Rattle.scripts_forms.specs.declared.words.Word.TheVariants as word
use Rattle.scripts_forms.specs.declared.shapes.Shape.{Shape}
use Rattle.scripts_forms.specs.Tokens.{Token, Reserved, Mark, Number, Name, Bad, tokens_of}
use Rattle.scripts_forms.specs.Reading.{HasForm, values_of}

-- What stands behind the label of a line: nothing, `ABSOLUTE name = value`, an instruction with its values, or text
-- that has a bad token or no form.
pub data Body : Type 0 where
  Nothing : Body
  Absolute : (name : List ℕ) (value : ℕ) → Body
  Instruction : (shape : Shape) (values : List Token) → Body
  BadToken : Body
  BadForm : Body

pub record Line : Type 0 where
  pub label : Option (List ℕ)
  pub body : Body

-- The texts of the lines: a line ends with a line feed or with the text.
abbrev pub lines_of : List ℕ → List (List ℕ)
lines_of text = slice_split (λ b. nat_eq b 10) text

-- `name:` at the front of a line, and what is behind it.
abbrev pub label_of : List Token → Option (List ℕ)
label_of (Name name ∷ Mark m ∷ ts) = if nat_eq m 58 then Some name else None
label_of _ = None

abbrev pub unlabelled : List Token → List Token
unlabelled (Name name ∷ Mark m ∷ ts) = if nat_eq m 58 then ts else Name name ∷ Mark m ∷ ts
unlabelled ts = ts

abbrev pub is_bad : Token → Bool
is_bad Bad = true
is_bad _ = false

-- `ABSOLUTE name = n`.
abbrev pub absolute : List ℕ → ℕ → List Token
absolute name n = Reserved (word.Key keys.Absolute) ∷ Name name ∷ Mark 61 ∷ Number n ∷ []

-- Tokens that no form has, and none of them bad.
pub record HasNoForm (ts : List Token) : Type 0 where
  pub tokens : list_any is_bad ts ≡ false
  pub some : ts ≢ []
  pub no_absolute : (name : List ℕ) (n : ℕ) → ts ≢ absolute name n
  pub no_instruction : (s : Shape) → HasForm s ts → ⊥

-- The tokens behind the label are read as this body.
abbrev pub IsBody : List Token → Body → Type 0
IsBody ts Nothing = ts ≡ []
IsBody ts (Absolute name n) = ts ≡ absolute name n
IsBody ts (Instruction s vs) = HasForm s ts × (vs ≡ values_of ts)
IsBody ts BadToken = list_any is_bad ts ≡ true
IsBody ts BadForm = HasNoForm ts

-- The text of a line is read so. A label counts whatever stands behind it.
pub record IsLine (text : List ℕ) (line : Line) : Type 0 where
  pub label : line.label ≡ label_of (tokens_of text)
  pub body : IsBody (unlabelled (tokens_of text)) line.body

-- Texts are read as lines one by one.
abbrev pub AreLines : List (List ℕ) → List Line → Type 0
AreLines [] [] = Unit {0}
AreLines [] (l ∷ ls) = ⊥
AreLines (t ∷ ts) [] = ⊥
AreLines (t ∷ ts) (l ∷ ls) = IsLine t l × AreLines ts ls

-- The text of a line, counted from 0; empty behind the last one.
abbrev pub line_at : List (List ℕ) → ℕ → List ℕ
line_at texts n = unwrap_or (slice_get texts n) []

-- Lines are read in one way.
abbrev pub OneReading : Type 0
OneReading = (texts : List (List ℕ)) (ls ms : List Line) → AreLines texts ls → AreLines texts ms → ls ≡ ms
