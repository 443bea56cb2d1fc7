-- The text parts of a listing assemble to the same words.
use Rattle.std.specs.Prelude.{◌≡◌, ℕ, ◌<◌, ◌≤◌, List, [], ◌∷◌, ◌++◌, length, IfSome, Ok}
use Rattle.std.specs.List.{AllByRecursion}
use Rattle.scripts_ops.specs.declared.values.Op.{Op}
use Rattle.scripts_ops.specs.Table.{row}
use Rattle.scripts_forms.specs.Lines.{Line, AreLines, lines_of}
use Rattle.scripts_asm.specs.Assembled.{assembled, words_of_op}
use Rattle.scripts_list.specs.Texts.{text_of}

-- An instruction that words of 32 bits spell.
pub record IsSpelled (op : Op) : Type 0 where
  pub fields : (row op).fields
  pub second : (row op).second < 4294967296
  pub third : IfSome (row op).third (λ w. w < 4294967296)

abbrev pub words_of_ops : List Op → List ℕ
words_of_ops [] = []
words_of_ops (op ∷ ops) = words_of_op op ++ words_of_ops ops

-- The text parts, each on its line.
abbrev pub texts_of : List Op → List ℕ
texts_of [] = []
texts_of (op ∷ ops) = text_of op ++ 10 ∷ texts_of ops

-- The texts of at most 1,024 instructions assemble to their words.
abbrev pub RoundTrip : Type 0
RoundTrip = (ops : List Op) → AllByRecursion IsSpelled ops → length ops ≤ 1024 → (ls : List Line) → AreLines (lines_of (texts_of ops)) ls → assembled ls ≡ Ok (words_of_ops ops)
