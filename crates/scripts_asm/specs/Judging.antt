-- What the second pass gives. No public contract rests on these.
use Rattle.std.specs.Prelude.{◌≡◌, ◌<◌, ◌≤◌, ℕ, List, Result, Ok, Err}
use Rattle.scripts_forms.specs.Lines.{Line}
use Rattle.scripts_asm.specs.declared.assembling.Image.{Image}
use Rattle.scripts_asm.specs.declared.judging.Stop.{Stop}
use Rattle.scripts_asm.specs.declared.judging.Stop.TheVariants.{Fault, OutOfMemory}
use Rattle.scripts_asm.specs.Assembled.{Judged, labels_from}
use Rattle.scripts_asm.specs.Image.{seen_labels}

abbrev pub GivesJudged : Result Image Stop → Judged → List Line → Type 0
GivesJudged (Ok image) judged ls = (judged ≡ Ok image.words) × (seen_labels image.labels ≡ labels_from 0 ls)
GivesJudged (Err (Fault line kind)) judged ls = judged ≡ Err (line, kind)
GivesJudged (Err OutOfMemory) judged ls = Unit {0}

-- Lines count from 1.
abbrev pub HasLine : Stop → Type 0
HasLine (Fault line kind) = 0 < line
HasLine OutOfMemory = Unit {0}
