-- The answer of the assembler, from those of its passes.
use Rattle.std.proofs.Common.{◌≡◌, ℕ, ◌-◌, List, Result, Ok, Err}
use Rattle.std.proofs.Math.Path.{fun_ext}
use Rattle.std.specs.Borrow.{Bor}
use Rattle.scripts_forms.specs.Lines.{Line, AreLines, lines_of, line_at}
use Rattle.scripts_asm.specs.declared.faults.Kind.{Kind}
use Rattle.scripts_asm.specs.declared.assembling.Image.{Image}
use Rattle.scripts_asm.specs.Assembled.{Givings, first_giving, names_from, labels_from, judged}
use Rattle.scripts_asm.specs.Image.{seen_labels, Makes, Refuses}
use Rattle.scripts_asm.specs.Seen.{all_texts}

pub makes : (text : List ℕ) (texts : List (Bor (List ℕ))) (lines : List Line) (find : Givings) (image : Image) → all_texts texts ≡ lines_of text → AreLines (all_texts texts) lines → ((q : List ℕ) → find q ≡ first_giving 0 (names_from 0 lines) q) → judged find 0 0 1 lines ≡ Ok image.words → seen_labels image.labels ≡ labels_from 0 lines → Makes text image
makes text texts lines find image e are names ok labels =
    let same : find ≡ first_giving 0 (names_from 0 lines) = fun_ext names in
    record { lines = lines; are_lines = rw e at are; words = rw same at ok; labels = labels }

pub refuses : (text : List ℕ) (texts : List (Bor (List ℕ))) (lines : List Line) (find : Givings) (kind : Kind) (line : ℕ) (shown : List ℕ) → all_texts texts ≡ lines_of text → AreLines (all_texts texts) lines → ((q : List ℕ) → find q ≡ first_giving 0 (names_from 0 lines) q) → judged find 0 0 1 lines ≡ Err (line, kind) → shown ≡ line_at (all_texts texts) (line - 1) → Refuses text kind line shown
refuses text texts lines find kind line shown e are names err is =
    let same : find ≡ first_giving 0 (names_from 0 lines) = fun_ext names in
    record { lines = lines; are_lines = rw e at are; is = rw same at err; shown_is = rw e at is }
