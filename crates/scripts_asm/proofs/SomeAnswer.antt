-- Every text has an image or a first fault.
use Rattle.std.proofs.Common.{◌≡◌, ◌≢◌, ◌⊎◌, ℕ, ◌-◌, List, [], ◌∷◌, map, Ok, Err, refl, ap, inl, inr, ⊎_elim}
use Rattle.scripts_forms.specs.Lines.{Line, AreLines, lines_of, line_at}
use Rattle.scripts_asm.specs.declared.faults.Kind.{Kind}
use Rattle.scripts_asm.specs.declared.faults.Kind.TheVariants as kinds
use Rattle.scripts_asm.specs.declared.assembling.Label.{Label}
use Rattle.scripts_asm.specs.declared.assembling.AsmFault.{AsmFault}
use Rattle.scripts_asm.specs.declared.assembling.AsmFault.TheVariants.{BadToken, BadForm, UnknownLabel, TwiceLabel, TooWide, TooLong, OutOfMemory}
use Rattle.scripts_asm.specs.Assembled.{Names, Judged, assembled, labels_from}
use Rattle.scripts_asm.specs.Image.{seen_labels, Refuses, Assembles}
use Rattle.scripts_asm.specs.Laws.{SomeAnswer}
use Rattle.scripts_asm.proofs.SomeReading.{some_reading}

abbrev label : List ℕ × ℕ → Label
label p = record { name = p.0; address = p.1 }

labels_again : (names : Names) → seen_labels (map label names) ≡ names
labels_again [] = refl
labels_again (p ∷ ps) = ap (λ (xs : Names). p ∷ xs) (labels_again ps)

judged_is : (r : Judged) → ((ws : List ℕ) × (r ≡ Ok ws)) ⊎ ((line : ℕ) × (kind : Kind) × (r ≡ Err (line, kind)))
judged_is (Ok ws) = inl (ws, refl)
judged_is (Err p) = inr (p.0, p.1, refl)

refusal : (text : List ℕ) (kind : Kind) (line : ℕ) (shown : List ℕ) → Refuses text kind line shown → (fault : AsmFault) × (fault ≢ OutOfMemory) × Assembles text (Err fault)
refusal text kinds.BadToken line shown r = (BadToken line shown, (λ e. absurd cc), r)
refusal text kinds.BadForm line shown r = (BadForm line shown, (λ e. absurd cc), r)
refusal text kinds.UnknownLabel line shown r = (UnknownLabel line shown, (λ e. absurd cc), r)
refusal text kinds.TwiceLabel line shown r = (TwiceLabel line shown, (λ e. absurd cc), r)
refusal text kinds.TooWide line shown r = (TooWide line shown, (λ e. absurd cc), r)
refusal text kinds.TooLong line shown r = (TooLong line shown, (λ e. absurd cc), r)

pub some_answer : SomeAnswer
some_answer text =
    let read : (ls : List Line) × AreLines (lines_of text) ls = some_reading (lines_of text) in
    ⊎_elim
    (λ ok. inl (
      record { words = ok.0; labels = map label (labels_from 0 read.0) },
      record { lines = read.0; are_lines = read.1; words = ok.1; labels = labels_again (labels_from 0 read.0) },
    ))
    (λ err. inr (refusal text err.1 err.0 (line_at (lines_of text) (err.0 - 1)) (record { lines = read.0; are_lines = read.1; is = err.2; shown_is = refl })))
    (judged_is (assembled read.0))
