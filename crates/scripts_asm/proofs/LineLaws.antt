-- A text has few lines.
use Rattle.std.proofs.Common.{◌≡◌, ℕ, ◌+◌, ◌≤◌, List, [], ◌∷◌, length, nat_eq, suc, refl, ap, ◌∙◌, sym, arith}
use Rattle.std.proofs.lemmas.List.Splits.{length-slice_split}
use Rattle.std.proofs.lemmas.List.Sums.{count_by-le-length}
use Rattle.std.specs.Borrow.{Bor}
use Rattle.scripts_forms.specs.Lines.{lines_of, AreLines}
use Rattle.scripts_asm.specs.Seen.{all_texts}

pub no_lines : (texts : List (Bor (List ℕ))) → length texts ≡ 0 → AreLines (all_texts texts) []
no_lines [] e = tt
no_lines (t ∷ ts) e = absurd (omega arith)

length_texts : (texts : List (Bor (List ℕ))) → length (all_texts texts) ≡ length texts
length_texts [] = refl
length_texts (t ∷ ts) = ap (λ (n : ℕ). suc n) (length_texts ts)

pub few_lines : (texts : List (Bor (List ℕ))) (text : List ℕ) → all_texts texts ≡ lines_of text → length texts ≤ length text + 1
few_lines texts text e =
    let same : length texts ≡ length (lines_of text) = sym (length_texts texts) ∙ ap length e in
    omega (arith, same, length-slice_split (λ b. nat_eq b 10) text, count_by-le-length (λ b. nat_eq b 10) text)
