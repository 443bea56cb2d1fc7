-- A source as text, and that it has one answer. Source: own, the assembler of docs/SCRIPTS.md.
use Rattle.std.specs.Prelude.{◌≡◌, ◌≢◌, ℕ, nat_lt, if◌then◌else◌, List, map, Ok, Err}
use Rattle.scripts_asm.specs.declared.assembling.Image.{Image}
use Rattle.scripts_asm.specs.declared.assembling.AsmFault.{AsmFault}
use Rattle.scripts_asm.specs.declared.assembling.AsmFault.TheVariants.{OutOfMemory}
use Rattle.scripts_asm.specs.Image.{Assembles}

-- a byte above 0x7F reads as `?`
abbrev pub read_as : ℕ → ℕ
read_as b = if nat_lt b 128 then b else 63

abbrev pub source_text : List ℕ → List ℕ
source_text source = map read_as source

-- An image or a first fault, never both, and of each but one.
pub record OneAssembly : Type 0 where
  pub images : (text : List ℕ) (i j : Image) → Assembles text (Ok i) → Assembles text (Ok j) → i ≡ j
  pub apart : (text : List ℕ) (i : Image) (f : AsmFault) → Assembles text (Ok i) → Assembles text (Err f) → f ≡ OutOfMemory
  pub faults : (text : List ℕ) (f g : AsmFault) → Assembles text (Err f) → Assembles text (Err g) → f ≢ OutOfMemory → g ≢ OutOfMemory → f ≡ g
