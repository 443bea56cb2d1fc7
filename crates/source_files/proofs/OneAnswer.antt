-- A source has one answer, since it is read in one way.
use Rattle.std.proofs.Common.{◌≡◌, ◌≢◌, ℕ, ◌-◌, List, [], ◌∷◌, Ok, Err, refl, sym, ap, ◌∙◌}
use Rattle.scripts_forms.specs.Lines.{lines_of, line_at}
use Rattle.scripts_asm.specs.declared.faults.Kind.{Kind}
use Rattle.scripts_asm.specs.declared.faults.Kind.TheVariants as kinds
use Rattle.scripts_asm.specs.declared.assembling.Image.{Image}
use Rattle.scripts_asm.specs.declared.assembling.Label.{Label}
use Rattle.scripts_asm.specs.declared.assembling.AsmFault.{AsmFault}
use Rattle.scripts_asm.specs.declared.assembling.AsmFault.TheVariants.{BadToken, BadForm, UnknownLabel, TwiceLabel, TooWide, TooLong, OutOfMemory}
use Rattle.scripts_asm.specs.Assembled.{Judged, assembled, labels_from}
use Rattle.scripts_asm.specs.Image.{Assembles, Makes, Refuses, seen_labels}
use Rattle.scripts_asm.proofs.OneReading.{one_reading}
use Rattle.source_files.specs.Sources.{OneAssembly}

same_words : (v w : List ℕ) (r : Judged) → r ≡ Ok v → r ≡ Ok w → v ≡ w
same_words v w r e f = cc

same_fault : (p q : ℕ × Kind) (r : Judged) → r ≡ Err p → r ≡ Err q → p ≡ q
same_fault p q r e f = cc

no_both : (v : List ℕ) (p : ℕ × Kind) (r : Judged) → r ≡ Ok v → r ≡ Err p → ⊥
no_both v p r e f = cc

same_labels : (ls ms : List Label) → seen_labels ls ≡ seen_labels ms → ls ≡ ms
same_labels [] [] e = refl
same_labels [] (m ∷ ms) e = absurd (cc)
same_labels (l ∷ ls) [] e = absurd (cc)
same_labels (l ∷ ls) (m ∷ ms) e =
    let pair : Label → List ℕ × ℕ = λ x. (x.name, x.address) in
    let label : List ℕ × ℕ → Label = λ p. record { name = p.0; address = p.1 } in
    let first : pair l ≡ pair m = cc in
    let rest : ls ≡ ms = same_labels ls ms cc in
    ap (λ (x : Label). x ∷ ls) (ap label first) ∙ ap (λ (xs : List Label). m ∷ xs) rest

images : (text : List ℕ) (i j : Image) → Assembles text (Ok i) → Assembles text (Ok j) → i ≡ j
images text i j a b =
    let same : a.lines ≡ b.lines = one_reading (lines_of text) a.lines b.lines a.are_lines b.are_lines in
    let words : i.words ≡ j.words = same_words i.words j.words (assembled b.lines) (sym (ap assembled same) ∙ a.words) b.words in
    let labels : i.labels ≡ j.labels = same_labels i.labels j.labels (a.labels ∙ ap (labels_from 0) same ∙ sym b.labels) in
    let image : List ℕ → List Label → Image = λ ws ls. record { words = ws; labels = ls } in
    ap (λ (ws : List ℕ). image ws i.labels) words ∙ ap (image j.words) labels

clash : (text : List ℕ) (i : Image) (kind : Kind) (line : ℕ) (shown : List ℕ) → Makes text i → Refuses text kind line shown → ⊥
clash text i kind line shown a b =
    let same : a.lines ≡ b.lines = one_reading (lines_of text) a.lines b.lines a.are_lines b.are_lines in
    no_both i.words (line, kind) (assembled b.lines) (sym (ap assembled same) ∙ a.words) b.is

apart : (text : List ℕ) (i : Image) (f : AsmFault) → Assembles text (Ok i) → Assembles text (Err f) → f ≡ OutOfMemory
apart text i (BadToken line shown) a b = absurd (clash text i kinds.BadToken line shown a b)
apart text i (BadForm line shown) a b = absurd (clash text i kinds.BadForm line shown a b)
apart text i (UnknownLabel line shown) a b = absurd (clash text i kinds.UnknownLabel line shown a b)
apart text i (TwiceLabel line shown) a b = absurd (clash text i kinds.TwiceLabel line shown a b)
apart text i (TooWide line shown) a b = absurd (clash text i kinds.TooWide line shown a b)
apart text i (TooLong line shown) a b = absurd (clash text i kinds.TooLong line shown a b)
apart text i OutOfMemory a b = refl

fault_with : Kind → ℕ → List ℕ → AsmFault
fault_with kinds.BadToken line shown = BadToken line shown
fault_with kinds.BadForm line shown = BadForm line shown
fault_with kinds.UnknownLabel line shown = UnknownLabel line shown
fault_with kinds.TwiceLabel line shown = TwiceLabel line shown
fault_with kinds.TooWide line shown = TooWide line shown
fault_with kinds.TooLong line shown = TooLong line shown

-- what a fault says of its text
record Blames (text : List ℕ) (f : AsmFault) : Type 0 where
  kind : Kind
  line : ℕ
  shown : List ℕ
  refuses : Refuses text kind line shown
  is : f ≡ fault_with kind line shown

blames : (text : List ℕ) (f : AsmFault) → Assembles text (Err f) → f ≢ OutOfMemory → Blames text f
unfolding fault_with
blames text (BadToken line shown) a some = record { kind = kinds.BadToken; line = line; shown = shown; refuses = a; is = refl }
blames text (BadForm line shown) a some = record { kind = kinds.BadForm; line = line; shown = shown; refuses = a; is = refl }
blames text (UnknownLabel line shown) a some = record { kind = kinds.UnknownLabel; line = line; shown = shown; refuses = a; is = refl }
blames text (TwiceLabel line shown) a some = record { kind = kinds.TwiceLabel; line = line; shown = shown; refuses = a; is = refl }
blames text (TooWide line shown) a some = record { kind = kinds.TooWide; line = line; shown = shown; refuses = a; is = refl }
blames text (TooLong line shown) a some = record { kind = kinds.TooLong; line = line; shown = shown; refuses = a; is = refl }
blames text OutOfMemory a some = absurd (some refl)

one_fault : (text : List ℕ) (f g : AsmFault) → Blames text f → Blames text g → f ≡ g
one_fault text f g a b =
    let same : a.refuses.lines ≡ b.refuses.lines = one_reading (lines_of text) a.refuses.lines b.refuses.lines a.refuses.are_lines b.refuses.are_lines in
    let pair : ℕ → Kind → ℕ × Kind = λ n k. (n, k) in
    let one : pair a.line a.kind ≡ pair b.line b.kind = same_fault (a.line, a.kind) (b.line, b.kind) (assembled b.refuses.lines) (sym (ap assembled same) ∙ a.refuses.is) b.refuses.is in
    let line : a.line ≡ b.line = ap (λ (p : ℕ × Kind). p.0) one in
    let kind : a.kind ≡ b.kind = ap (λ (p : ℕ × Kind). p.1) one in
    let shown : a.shown ≡ b.shown = a.refuses.shown_is ∙ ap (λ (n : ℕ). line_at (lines_of text) (n - 1)) line ∙ sym b.refuses.shown_is in
    a.is
    ∙ ap (λ (k : Kind). fault_with k a.line a.shown) kind
    ∙ ap (λ (n : ℕ). fault_with b.kind n a.shown) line
    ∙ ap (fault_with b.kind b.line) shown
    ∙ sym b.is

pub one_assembly : OneAssembly
one_assembly = record {
  images = images;
  apart = apart;
  faults = λ text f g a b some some'. one_fault text f g (blames text f a some) (blames text g b some');
}
