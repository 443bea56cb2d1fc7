-- That every text is read, and assembles to something. Source: own, the assembler of docs/SCRIPTS.md.
use Rattle.std.specs.Prelude.{◌≢◌, ◌⊎◌, ℕ, List, Ok, Err}
use Rattle.scripts_forms.specs.Lines.{Line, AreLines}
use Rattle.scripts_asm.specs.declared.assembling.Image.{Image}
use Rattle.scripts_asm.specs.declared.assembling.AsmFault.{AsmFault}
use Rattle.scripts_asm.specs.declared.assembling.AsmFault.TheVariants.{OutOfMemory}
use Rattle.scripts_asm.specs.Image.{Assembles}

-- Each text of a line is read as some line.
abbrev pub SomeReading : Type 0
SomeReading = (texts : List (List ℕ)) → (ls : List Line) × AreLines texts ls

-- A text has an image, or a first fault.
abbrev pub SomeAnswer : Type 0
SomeAnswer = (text : List ℕ) → ((image : Image) × Assembles text (Ok image)) ⊎ ((fault : AsmFault) × (fault ≢ OutOfMemory) × Assembles text (Err fault))
