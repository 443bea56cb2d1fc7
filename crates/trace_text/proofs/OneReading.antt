-- A text is read in one way.
use Rattle.std.proofs.Common.{◌≡◌, ◌≢◌, ◌⊎◌, ℕ, zero, suc, ◌+◌, ◌≤◌, List, [], ◌∷◌, ◌++◌, length, Option, Some, None, refl, sym, ap, ◌∙◌, inl, inr, ⊎_elim, arith, append_assoc}
use Rattle.std.proofs.lemmas.Bool.{cases_eq}
use Rattle.std.proofs.lemmas.List.{append-nil, append_cancel_left}
use Rattle.std.proofs.lemmas.List.Concat.{flat_map-cons}
use Rattle.trace_text.specs.declared.types.TraceLine.{TraceLine}
use Rattle.trace_text.specs.Grammar.{IsLine, AreLines, line_text, first_line, trace_of, IsTrace, BeginsWithNoLine, IsFirstFault}
use Rattle.trace_text.specs.Reading.{next_in}
use Rattle.trace_text.specs.Laws.{OneReading}
use Rattle.trace_text.proofs.Lines.{some_is}
use Rattle.trace_text.proofs.Traces.{texts, line_text_some, next_again, next_takes, length-rest, begins_with_none}

line_in_front : (l : TraceLine) (ls : List TraceLine) (rest : List ℕ) → texts (l ∷ ls) ++ rest ≡ line_text l ++ (texts ls ++ rest)
line_in_front l ls rest = ap (λ (x : List ℕ). x ++ rest) (flat_map-cons line_text l ls) ∙ append_assoc (line_text l) (texts ls) rest

-- two texts that are one begin with one line
same_front : (l m : TraceLine) (after behind : List ℕ) → IsLine l → IsLine m → line_text l ++ after ≡ line_text m ++ behind → (l ≡ m) × (after ≡ behind)
same_front l m after behind hl hm e =
    let p : (l, after) ≡ (m, behind) = some_is (l, after) (m, behind) (sym (next_again l after hl) ∙ ap next_in e ∙ next_again m behind hm) in
    (ap (λ (x : TraceLine × List ℕ). x.0) p, ap (λ (x : TraceLine × List ℕ). x.1) p)

same_lines : (ls ms : List TraceLine) (rest more : List ℕ) → AreLines ls → AreLines ms → BeginsWithNoLine rest → BeginsWithNoLine more → texts ls ++ rest ≡ texts ms ++ more → (ls ≡ ms) × (rest ≡ more)
same_lines [] [] rest more hl hm nl nm e = (refl, e)
same_lines [] (m ∷ ms) rest more hl hm nl nm e = absurd (nl m (texts ms ++ more) hm.0 (e ∙ line_in_front m ms more))
same_lines (l ∷ ls) [] rest more hl hm nl nm e = absurd (nm l (texts ls ++ rest) hl.0 (sym e ∙ line_in_front l ls rest))
same_lines (l ∷ ls) (m ∷ ms) rest more hl hm nl nm e =
    let front : (l ≡ m) × (texts ls ++ rest ≡ texts ms ++ more) = same_front l m (texts ls ++ rest) (texts ms ++ more) hl.0 hm.0 (sym (line_in_front l ls rest) ∙ e ∙ line_in_front m ms more) in
    let behind : (ls ≡ ms) × (rest ≡ more) = same_lines ls ms rest more hl.1 hm.1 nl nm front.1 in
    (ap (λ (x : TraceLine). x ∷ ls) front.0 ∙ ap (λ (x : List TraceLine). m ∷ x) behind.0, behind.1)

-- ---- the first line, lines, and what begins with no line

pub record IsCut (version : ℕ) (bytes : List ℕ) (ls : List TraceLine) (rest : List ℕ) : Type 0 where
  pub lines : AreLines ls
  pub text : bytes ≡ trace_of version ls ++ rest
  pub none : BeginsWithNoLine rest

behind_first : (version : ℕ) (bytes : List ℕ) (ls : List TraceLine) (rest : List ℕ) → bytes ≡ trace_of version ls ++ rest → bytes ≡ first_line version ++ (texts ls ++ rest)
behind_first version bytes ls rest e = e ∙ append_assoc (first_line version) (texts ls) rest

one_cut : (version : ℕ) (bytes : List ℕ) (ls ms : List TraceLine) (rest more : List ℕ) → IsCut version bytes ls rest → IsCut version bytes ms more → (ls ≡ ms) × (rest ≡ more)
one_cut version bytes ls ms rest more g h = same_lines ls ms rest more g.lines h.lines g.none h.none
    (append_cancel_left (first_line version) (texts ls ++ rest) (texts ms ++ more) (sym (behind_first version bytes ls rest g.text) ∙ behind_first version bytes ms more h.text))

of_trace : (version : ℕ) (bytes : List ℕ) (ls : List TraceLine) → IsTrace version bytes ls → IsCut version bytes ls []
of_trace version bytes ls t = record {
  lines = t.lines;
  text = t.text ∙ sym (append-nil (trace_of version ls));
  none = λ l more is e. line_text_some l more (sym e);
}

pub one_trace : (version : ℕ) (bytes : List ℕ) (ls ms : List TraceLine) → IsTrace version bytes ls → IsTrace version bytes ms → ls ≡ ms
one_trace version bytes ls ms s t = (one_cut version bytes ls ms [] [] (of_trace version bytes ls s) (of_trace version bytes ms t)).0

-- some lines are read, and no line follows
pub no_trace : (version : ℕ) (bytes : List ℕ) (ls ms : List TraceLine) (rest : List ℕ) → IsCut version bytes ls rest → rest ≢ [] → IsTrace version bytes ms → ⊥
no_trace version bytes ls ms rest g some t = some (one_cut version bytes ls ms rest [] g (of_trace version bytes ms t)).1

-- ---- one first fault

one_fault : (version : ℕ) (bytes : List ℕ) (m n : ℕ) → IsFirstFault version bytes m → IsFirstFault version bytes n → m ≡ n
one_fault version bytes m n f g = ⊎_elim
    (λ a. ⊎_elim
    (λ b. a.0 ∙ sym b.0)
    (λ b. absurd (a.1 (texts b.0 ++ b.1) (behind_first version bytes b.0 b.1 b.3)))
    g)
    (λ a. ⊎_elim
    (λ b. absurd (b.1 (texts a.0 ++ a.1) (behind_first version bytes a.0 a.1 a.3)))
    (λ b.
    let same : a.0 ≡ b.0 = (one_cut version bytes a.0 b.0 a.1 b.1 (record { lines = a.2; text = a.3; none = a.6 }) (record { lines = b.2; text = b.3; none = b.6 })).0 in
    a.5 ∙ ap (λ (x : List TraceLine). length x + 2) same ∙ sym b.5)
    g)
    f

trace_or_fault : (version : ℕ) (bytes : List ℕ) (ls : List TraceLine) (n : ℕ) → IsTrace version bytes ls → IsFirstFault version bytes n → ⊥
trace_or_fault version bytes ls n t f = ⊎_elim
    (λ a. a.1 (texts ls) t.text)
    (λ a. no_trace version bytes a.0 ls a.1 (record { lines = a.2; text = a.3; none = a.6 }) a.4 t)
    f

-- ---- a trace or a fault

begins_or_not : (p bs : List ℕ) → ((rest : List ℕ) × (bs ≡ p ++ rest)) ⊎ ((rest : List ℕ) → bs ≢ p ++ rest)
begins_or_not [] bs = inl (bs, refl)
begins_or_not (x ∷ p) [] = inr (λ rest e. absurd cc)
begins_or_not (x ∷ p) (b ∷ bs) = ⊎_elim
    (λ (same : b ≡ x). ⊎_elim
    (λ found. inl (found.0, ap (λ (y : ℕ). y ∷ bs) same ∙ ap (λ (ys : List ℕ). x ∷ ys) found.1))
    (λ none. inr (λ rest e. let tail : bs ≡ p ++ rest = cc in none rest tail))
    (begins_or_not p bs))
    (λ other. inr (λ rest e. let head : b ≡ x = cc in other head))
    (cases_eq b x)

next_or_none : (o : Option (TraceLine × List ℕ)) → (o ≡ None) ⊎ ((l : TraceLine) × (after : List ℕ) × (o ≡ Some (l, after)))
next_or_none None = inl refl
next_or_none (Some p) = inr (p.0, p.1, refl)

record Front (bytes : List ℕ) : Type 0 where
  ls : List TraceLine
  rest : List ℕ
  lines : AreLines ls
  text : bytes ≡ texts ls ++ rest
  none : BeginsWithNoLine rest

one_more : (bytes after : List ℕ) (l : TraceLine) → IsLine l → bytes ≡ line_text l ++ after → Front after → Front bytes
one_more bytes after l is e f = record {
  ls = l ∷ f.ls;
  rest = f.rest;
  lines = (is, f.lines);
  text = e ∙ ap (λ (x : List ℕ). line_text l ++ x) f.text ∙ sym (line_in_front l f.ls f.rest);
  none = f.none;
}

front-by : (bytes : List ℕ) → ((after : List ℕ) → length after + 1 ≤ length bytes → Front after) → Front bytes
front-by bytes behind = ⊎_elim
    (λ none. record { ls = []; rest = bytes; lines = tt; text = refl; none = λ l more is e. begins_with_none bytes l more none is e })
    (λ next.
    let t : (bytes ≡ line_text next.0 ++ next.1) × IsLine next.0 = next_takes bytes next.0 next.1 next.2 in
    one_more bytes next.1 next.0 t.1 t.0 (behind next.1 (length-rest bytes next.1 next.0 t.0)))
    (next_or_none (next_in bytes))

fronts : (n : ℕ) (bytes : List ℕ) → length bytes ≤ n → Front bytes
fronts zero bytes few = front-by bytes (λ after less. absurd (omega arith))
fronts (suc n) bytes few = front-by bytes (λ after less. fronts n after (omega arith))

nil_or_not : (xs : List ℕ) → (xs ≡ []) ⊎ (xs ≢ [])
nil_or_not [] = inl refl
nil_or_not (x ∷ xs) = inr (λ e. absurd cc)

trace_or_first_fault : (version : ℕ) (bytes : List ℕ) → ((ls : List TraceLine) × IsTrace version bytes ls) ⊎ ((n : ℕ) × IsFirstFault version bytes n)
trace_or_first_fault version bytes = ⊎_elim
    (λ found.
    let f : Front found.0 = fronts (length found.0) found.0 (omega arith) in
    let text : bytes ≡ first_line version ++ (texts f.ls ++ f.rest) = found.1 ∙ ap (λ (x : List ℕ). first_line version ++ x) f.text in
    ⊎_elim
    (λ (nil : f.rest ≡ []). inl (f.ls, record { lines = f.lines; text = text ∙ ap (λ (x : List ℕ). first_line version ++ (texts f.ls ++ x)) nil ∙ ap (λ (x : List ℕ). first_line version ++ x) (append-nil (texts f.ls)) }))
    (λ (some : f.rest ≢ []). inr (length f.ls + 2, inr (f.ls, f.rest, f.lines, text ∙ sym (append_assoc (first_line version) (texts f.ls) f.rest), some, refl, f.none)))
    (nil_or_not f.rest))
    (λ none. inr (1, inl (refl, none)))
    (begins_or_not (first_line version) bytes)

pub one_reading : (version : ℕ) (bytes : List ℕ) → OneReading version bytes
one_reading version bytes = record {
  some = trace_or_first_fault version bytes;
  lines = one_trace version bytes;
  fault = one_fault version bytes;
  either = trace_or_fault version bytes;
}
