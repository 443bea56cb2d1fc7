-- Whole traces.
use Rattle.std.proofs.Common.{◌≡◌, ◌≢◌, ℕ, ◌+◌, ◌<◌, ◌≤◌, Bool, true, false, cond, eqb, List, [], ◌∷◌, ◌++◌, length, Option, Some, None, option_map, refl, sym, ap, subst, ◌∙◌, arith, append_assoc, codes}
use Rattle.std.specs.Prelude.{unwrap_or}
use Rattle.std.specs.Fmt.{decimal}
use Rattle.std.specs.List.{flat_map}
use Rattle.std.specs.Str.{bytes_eq}
use Rattle.std.proofs.lemmas.List.{append-nil, length-append, nil_from_length}
use Rattle.std.proofs.lemmas.Bool.{both_ways, eq-eqb, eqb-true}
use Rattle.std.proofs.lemmas.List.Concat.{flat_map-cons, flat_map-append}
use Rattle.std.proofs.lemmas.Slice.Eq.{bytes_eq-Decides}
use Rattle.std.proofs.lemmas.Fmt.{decimal_digit}
use Rattle.trace_text.specs.declared.types.TraceLine.{TraceLine}
use Rattle.trace_text.specs.Grammar.{step_text, IsLine, line_text, first_line, trace_of, AreLines}
use Rattle.trace_text.specs.Reading.{split_in, line_in, next_in, after_first_line}
use Rattle.trace_text.proofs.Lines.{map_some, then_some, guard_some, decimal_lacks, split_takes, split_again, lacks, line_takes, line_again, text_lacks}

pub next_takes : (bs : List ℕ) (l : TraceLine) (rest : List ℕ) → next_in bs ≡ Some (l, rest) → (bs ≡ line_text l ++ rest) × IsLine l
next_takes bs l rest e =
    let a = then_some (λ (p : List ℕ × List ℕ). option_map (λ (l : TraceLine). (l, p.1)) (line_in p.0)) (split_in 10 bs) (l, rest) e in
    let b = map_some (λ (m : TraceLine). (m, a.0.1)) (line_in a.0.0) (l, rest) a.2 in
    let line = ap (λ (p : TraceLine × List ℕ). p.0) b.2 in
    let after = ap (λ (p : TraceLine × List ℕ). p.1) b.2 in
    let t = line_takes a.0.0 b.0 b.1 in
    let whole : bs ≡ line_text b.0 ++ a.0.1 = split_takes 10 bs a.0 a.1 ∙ ap (λ (x : List ℕ). x ++ 10 ∷ a.0.1) t.text ∙ sym (append_assoc (step_text b.0.step (unwrap_or b.0.caller 0)) (10 ∷ []) a.0.1) in
    (whole ∙ ap (λ (m : TraceLine). line_text m ++ a.0.1) line ∙ ap (λ (x : List ℕ). line_text l ++ x) after, subst IsLine line t.line)

pub next_again : (l : TraceLine) (rest : List ℕ) → IsLine l → next_in (line_text l ++ rest) ≡ Some (l, rest)
next_again l rest h =
    let text = step_text l.step (unwrap_or l.caller 0) in
    let split : split_in 10 (line_text l ++ rest) ≡ Some (text, rest) = ap (split_in 10) (append_assoc text (10 ∷ []) rest) ∙ split_again 10 text rest (text_lacks l.step (unwrap_or l.caller 0) h.fits h.small) in
    rw (split, line_again l h) refl

-- the first line
abbrev pub head : ℕ → List ℕ
head version = codes "sym-trace " ++ decimal version

pub first_line_takes : (version : ℕ) (bs rest : List ℕ) → after_first_line version bs ≡ Some rest → bs ≡ first_line version ++ rest
first_line_takes version bs rest e =
    let a = then_some (λ (p : List ℕ × List ℕ). cond (bytes_eq p.0 (head version)) (Some p.1) None) (split_in 10 bs) rest e in
    let g = guard_some (bytes_eq a.0.0 (head version)) a.0.1 rest a.2 in
    let same : a.0.0 ≡ head version = (bytes_eq-Decides a.0.0 (head version)).0 g.0 in
    split_takes 10 bs a.0 a.1 ∙ ap (λ (x : List ℕ). x ++ 10 ∷ a.0.1) same ∙ ap (λ (x : List ℕ). head version ++ 10 ∷ x) g.1 ∙ sym (append_assoc (head version) (10 ∷ []) rest)

head_lacks : (version : ℕ) → version < 10 → lacks 10 (head version)
head_lacks version lt = (refl, (refl, (refl, (refl, (refl, (refl, (refl, (refl, (refl, (refl, decimal_lacks 10 version (omega arith) (omega arith)))))))))))

after_split : (version : ℕ) (bs rest : List ℕ) → split_in 10 bs ≡ Some (head version, rest) → bytes_eq (head version) (head version) ≡ true → after_first_line version bs ≡ Some rest
after_split version bs rest split same = rw (split, same) refl

pub first_line_again : (version : ℕ) (rest : List ℕ) → version < 10 → after_first_line version (first_line version ++ rest) ≡ Some rest
first_line_again version rest lt =
    let split : split_in 10 (first_line version ++ rest) ≡ Some (head version, rest) = ap (split_in 10) (append_assoc (head version) (10 ∷ []) rest) ∙ split_again 10 (head version) rest (head_lacks version lt) in
    let same : bytes_eq (head version) (head version) ≡ true = (bytes_eq-Decides (head version) (head version)).1 refl in
    after_split version (first_line version ++ rest) rest split same

-- lines that follow lines
abbrev pub texts : List TraceLine → List ℕ
texts ls = flat_map line_text ls

pub line_text_some : (l : TraceLine) (rest : List ℕ) → line_text l ++ rest ≢ []
line_text_some l rest e = absurd (omega (arith, ap length e, length-append (line_text l) rest, length-append (step_text l.step (unwrap_or l.caller 0)) (10 ∷ [])))

none_some : {A : Type 0} (o : Option A) (x : A) → o ≡ None → o ≡ Some x → ⊥
none_some o x a b = cc

pub head_digit : (version : ℕ) → version < 10 → head version ≡ codes "sym-trace " ++ (48 + version) ∷ []
head_digit version lt = ap (λ (x : List ℕ). codes "sym-trace " ++ x) (decimal_digit version lt)

-- a text without its first line is no trace
pub no_first_line : (version : ℕ) (bs rest : List ℕ) → version < 10 → after_first_line version bs ≡ None → bs ≡ first_line version ++ rest → ⊥
no_first_line version bs rest lt a b = none_some (after_first_line version bs) rest a (ap (after_first_line version) b ∙ first_line_again version rest lt)

pub AreLines-push : (ls : List TraceLine) (l : TraceLine) → AreLines ls → IsLine l → AreLines (ls ++ l ∷ [])
AreLines-push [] l a b = (b, tt)
AreLines-push (m ∷ ls) l a b = (a.0, AreLines-push ls l a.1 b)

pub trace-push : (version : ℕ) (ls : List TraceLine) (l : TraceLine) (rest : List ℕ) → trace_of version ls ++ (line_text l ++ rest) ≡ trace_of version (ls ++ l ∷ []) ++ rest
trace-push version ls l rest =
    sym (append_assoc (trace_of version ls) (line_text l) rest)
    ∙ ap (λ (x : List ℕ). x ++ rest) (append_assoc (first_line version) (texts ls) (line_text l)
    ∙ ap (λ (x : List ℕ). first_line version ++ x) (sym (flat_map-append line_text ls (l ∷ []) ∙ ap (λ (x : List ℕ). texts ls ++ x) (flat_map-cons line_text l [] ∙ append-nil (line_text l)))))

pub length-rest : (bs rest : List ℕ) (l : TraceLine) → bs ≡ line_text l ++ rest → length rest + 1 ≤ length bs
length-rest bs rest l e = omega (arith, ap length e, length-append (line_text l) rest, length-append (step_text l.step (unwrap_or l.caller 0)) (10 ∷ []))

pub not_empty : (xs : List ℕ) (b : Bool) → b ≡ eqb (length xs) 0 → b ≡ false → xs ≢ []
not_empty xs b e f g = both_ways b f (e ∙ eq-eqb _ _ (ap length g))

pub is_nil : (xs : List ℕ) (b : Bool) → b ≡ eqb (length xs) 0 → b ≡ true → xs ≡ []
is_nil xs b e t = nil_from_length xs (eqb-true _ _ (sym e ∙ t))

pub trace_start : (version : ℕ) (rest : List ℕ) → trace_of version [] ++ rest ≡ first_line version ++ rest
trace_start version rest = ap (λ (x : List ℕ). x ++ rest) (append-nil (first_line version))

pub begins_with_none : (rest : List ℕ) (l : TraceLine) (more : List ℕ) → next_in rest ≡ None → IsLine l → rest ≡ line_text l ++ more → ⊥
begins_with_none rest l more none is e = none_some (next_in rest) (l, more) none (ap next_in e ∙ next_again l more is)
