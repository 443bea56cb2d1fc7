-- What assembling a text gives.
use Rattle.std.specs.Prelude.{◌≡◌, ℕ, ◌-◌, List, map, Option, Some, None, Result, Ok, Err}
use Rattle.scripts_forms.specs.Lines.{Line, AreLines, lines_of, line_at}
use Rattle.scripts_asm.specs.declared.faults.Kind.{Kind}
use Rattle.scripts_asm.specs.declared.faults.Kind.TheVariants as kinds
use Rattle.scripts_asm.specs.declared.assembling.Image.{Image}
use Rattle.scripts_asm.specs.declared.assembling.Label.{Label}
use Rattle.scripts_asm.specs.declared.assembling.AsmFault.{AsmFault}
use Rattle.scripts_asm.specs.declared.assembling.AsmFault.TheVariants.{BadToken, BadForm, UnknownLabel, TwiceLabel, TooWide, TooLong, OutOfMemory}
use Rattle.scripts_asm.specs.Assembled.{Names, assembled, labels_from}

abbrev pub seen_labels : List Label → Names
seen_labels ls = map (λ l. (l.name, l.address)) ls

-- The lines of the text have no fault, and make this image.
pub record Makes (text : List ℕ) (image : Image) : Type 0 where
  pub lines : List Line
  pub are_lines : AreLines (lines_of text) lines
  pub words : assembled lines ≡ Ok image.words
  pub labels : seen_labels image.labels ≡ labels_from 0 lines

-- The first fault of the lines of the text is this one.
pub record Refuses (text : List ℕ) (kind : Kind) (line : ℕ) (shown : List ℕ) : Type 0 where
  pub lines : List Line
  pub are_lines : AreLines (lines_of text) lines
  pub is : assembled lines ≡ Err (line, kind)
  pub shown_is : shown ≡ line_at (lines_of text) (line - 1)

-- The answer of the assembler to a text.
abbrev pub Assembles : List ℕ → Result Image AsmFault → Type 0
Assembles text (Ok image) = Makes text image
Assembles text (Err (BadToken line shown)) = Refuses text kinds.BadToken line shown
Assembles text (Err (BadForm line shown)) = Refuses text kinds.BadForm line shown
Assembles text (Err (UnknownLabel line shown)) = Refuses text kinds.UnknownLabel line shown
Assembles text (Err (TwiceLabel line shown)) = Refuses text kinds.TwiceLabel line shown
Assembles text (Err (TooWide line shown)) = Refuses text kinds.TooWide line shown
Assembles text (Err (TooLong line shown)) = Refuses text kinds.TooLong line shown
Assembles text (Err OutOfMemory) = Unit {0}

abbrev pub Shows : AsmFault → Kind → ℕ → List ℕ → Type 0
Shows fault kind line shown = (text : List ℕ) → Refuses text kind line shown → Assembles text (Err fault)

-- The number of a fault, and that of its line.
abbrev pub number_of : AsmFault → Option ℕ
number_of (BadToken line shown) = Some 1
number_of (BadForm line shown) = Some 2
number_of (UnknownLabel line shown) = Some 3
number_of (TwiceLabel line shown) = Some 4
number_of (TooWide line shown) = Some 5
number_of (TooLong line shown) = Some 6
number_of OutOfMemory = None

abbrev pub line_of : AsmFault → Option ℕ
line_of (BadToken line shown) = Some line
line_of (BadForm line shown) = Some line
line_of (UnknownLabel line shown) = Some line
line_of (TwiceLabel line shown) = Some line
line_of (TooWide line shown) = Some line
line_of (TooLong line shown) = Some line
line_of OutOfMemory = None
