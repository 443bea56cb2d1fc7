-- A text of an instruction is read as that instruction.
use Rattle.std.proofs.Common.{◌≡◌, ◌≢◌, ℕ, zero, suc, ◌+◌, ◌*◌, ◌<◌, ◌≤◌, List, [], ◌∷◌, ◌++◌, length, take, drop, map, filter, nat_eq, nat_lt, nat_le, Bool, true, false, not, ◌&&◌, ◌||◌, cond, Option, Some, None, is_some, Result, Ok, Err, refl, sym, ◌∙◌, ap, subst, arith, inl, inr, IsTrue}
use Rattle.std.proofs.lemmas.Grind.{common_steps}
use Rattle.std.proofs.lemmas.Bool.{and_parts, cases_Bool, false≢true}
use Rattle.std.proofs.lemmas.Bool.Decides.{nat_tests}
use Rattle.std.proofs.lemmas.List.{take_all}
use Rattle.std.proofs.lemmas.List.Folds.{list_all-append}
use Rattle.std.specs.List.{list_all, list_any, before_first, position_or_len, AllByRecursion}
use Rattle.std.specs.Fmt.{digits}
use Rattle.scripts_ops.specs.declared.values.Op.{Op}
use Rattle.scripts_ops.specs.Table.{row}
use Rattle.scripts_forms.specs.declared.words.Word.{Word}
use Rattle.scripts_forms.specs.declared.shapes.Shape.{Shape}
use Rattle.scripts_forms.specs.declared.shapes.Shape.TheVariants as shapes
use Rattle.scripts_forms.specs.declared.shapes.Item.{Item}
use Rattle.scripts_forms.specs.declared.shapes.Item.TheVariants as item
use Rattle.scripts_forms.specs.Words.{spelling, meant}
use Rattle.scripts_forms.specs.Tokens.{Token, Reserved, Mark, Number, Name, Bad, in_run, is_mark, tokens_in, tokens_of}
use Rattle.scripts_forms.specs.Shapes.{items}
use Rattle.scripts_forms.specs.Reading.{HasForm, Matches, values_of as value_tokens}
use Rattle.scripts_asm.proofs.OneReading.{body_is_form, body_is_nothing}
use Rattle.scripts_forms.proofs.Pieces.{tokens_in_empty}
use Rattle.scripts_forms.specs.Lines.{Line, Body, Nothing, Absolute, Instruction, BadToken, BadForm, IsLine, IsBody, AreLines, lines_of, label_of, unlabelled, is_bad, absolute, HasNoForm}
use Rattle.scripts_list.specs.Texts.{printed, mark_text, number_text, text_of, shape_of, values_of}
use Rattle.scripts_list.specs.Filled.{filled, FitsHoles}
use Rattle.scripts_list.specs.RoundTrip.{IsSpelled, texts_of}
use Rattle.scripts_list.proofs.PrintedForms.{IsGood, IsGoodMark, AreGood, printed_tokens, blank_first, hex_digits, digits_in_run}
use Rattle.scripts_list.proofs.Shown.{good_items, fits_holes}

-- no comment begins here, and no line ends
abbrev is_plain : ℕ → Bool
is_plain b = not (nat_eq b 59) && not (nat_eq b 10)

run_plain : (b : ℕ) → in_run b ≡ true → is_plain b ≡ true
run_plain b h = grind (arith, nat_tests)

mark_plain : (b : ℕ) → is_mark b ≡ true → is_plain b ≡ true
mark_plain b h = grind (arith, nat_tests)

runs_plain : (bs : List ℕ) → list_all in_run bs ≡ true → list_all is_plain bs ≡ true
runs_plain [] h = refl
runs_plain (b ∷ bs) h =
    let (one, more) = and_parts (in_run b) (list_all in_run bs) h in
    rw (run_plain b one) (runs_plain bs more)

plain_both : (xs ys : List ℕ) → list_all is_plain xs ≡ true → list_all is_plain ys ≡ true → list_all is_plain (xs ++ ys) ≡ true
plain_both xs ys h k = rw (list_all-append is_plain xs ys, h, k) refl

plain_mark : (m : ℕ) → IsGoodMark m → list_all is_plain (mark_text m) ≡ true
plain_mark m good = elim (cases_Bool (nat_eq m 44)) [ inl k ↦ rw (k, mark_plain m good.mark) refl | inr k ↦ rw (k, mark_plain m good.mark) refl ]

plain_printed : (is : List Item) (ns : List ℕ) → AreGood is → FitsHoles is ns → list_all is_plain (printed is ns) ≡ true
plain_printed [] ns good fits = refl
plain_printed (item.Fixed w ∷ is) ns good fits = plain_both (spelling w) (printed is ns) (runs_plain (spelling w) good.0.run) (plain_printed is ns good.1 fits)
plain_printed (item.Mark m ∷ is) ns good fits = plain_both (mark_text m) (printed is ns) (plain_mark m good.0) (plain_printed is ns good.1 fits)
plain_printed (item.Value most ∷ is) [] good fits = refl
plain_printed (item.Value most ∷ is) (n ∷ ns) good fits =
    let (numeral_is, value) = hex_digits n fits.1 in
    plain_both (digits 16 false n) (printed is ns) (runs_plain (digits 16 false n) (digits_in_run (digits 16 false n) numeral_is.1)) (plain_printed is ns good fits.2)

-- a text without its first blank
blank_again : (s : Shape) (ns : List ℕ) → tokens_in (drop 1 (printed (items s) ns)) ≡ tokens_in (printed (items s) ns)
blank_again (shapes.Move p) ns = sym (blank_first (drop 1 (printed (items (shapes.Move p)) ns)))
blank_again s ns = sym (blank_first (drop 1 (printed (items s) ns)))

plain_again : (s : Shape) (ns : List ℕ) → list_all is_plain (printed (items s) ns) ≡ true → list_all is_plain (drop 1 (printed (items s) ns)) ≡ true
plain_again (shapes.Move p) ns h = h
plain_again s ns h = h

len_plain : (xs : List ℕ) → list_all is_plain xs ≡ true → position_or_len (λ b. nat_eq b 59) xs ≡ length xs
len_plain [] h = refl
len_plain (x ∷ xs) h =
    let (one, more) = and_parts (is_plain x) (list_all is_plain xs) h in
    let (a, b) = and_parts (not (nat_eq x 59)) (not (nat_eq x 10)) one in
    rw (a, len_plain xs more) (omega arith)

no_comment : (xs : List ℕ) → list_all is_plain xs ≡ true → before_first (λ b. nat_eq b 59) xs ≡ xs
no_comment xs h = ap (λ (n : ℕ). take n xs) (len_plain xs h) ∙ take_all (length xs) xs (omega arith)

pub text_plain : (op : Op) → IsSpelled op → list_all is_plain (text_of op) ≡ true
unfolding text_of
text_plain op h = plain_again (shape_of op) (values_of op) (plain_printed (items (shape_of op)) (values_of op) (good_items op h.fields) (fits_holes op h.fields h))

pub text_tokens : (op : Op) → IsSpelled op → tokens_of (text_of op) ≡ filled (items (shape_of op)) (values_of op)
unfolding text_of
text_tokens op h =
    ap tokens_in (no_comment (text_of op) (text_plain op h))
    ∙ blank_again (shape_of op) (values_of op)
    ∙ printed_tokens (items (shape_of op)) (values_of op) (good_items op h.fields) (fits_holes op h.fields h)

pub matches_filled : (is : List Item) (ns : List ℕ) → FitsHoles is ns → Matches is (filled is ns)
matches_filled [] [] fits = tt
matches_filled [] (n ∷ ns) fits = absurd fits
matches_filled (item.Fixed w ∷ is) ns fits = (refl, matches_filled is ns fits)
matches_filled (item.Mark m ∷ is) ns fits = (refl, matches_filled is ns fits)
matches_filled (item.Value most ∷ is) [] fits = absurd fits
matches_filled (item.Value most ∷ is) (n ∷ ns) fits = (refl, matches_filled is ns fits.2)

pub values_filled : (is : List Item) (ns : List ℕ) → FitsHoles is ns → value_tokens (filled is ns) ≡ map Number ns
values_filled [] [] fits = refl
values_filled [] (n ∷ ns) fits = absurd fits
values_filled (item.Fixed w ∷ is) ns fits = values_filled is ns fits
values_filled (item.Mark m ∷ is) ns fits = values_filled is ns fits
values_filled (item.Value most ∷ is) [] fits = absurd fits
values_filled (item.Value most ∷ is) (n ∷ ns) fits = ap (λ (ts : List Token). Number n ∷ ts) (values_filled is ns fits.2)

-- ---- and so a line

unlabelled_form : (s : Shape) (ns : List ℕ) → unlabelled (filled (items s) ns) ≡ filled (items s) ns
unlabelled_form (shapes.Move p) ns = refl
unlabelled_form s ns = refl

no_label : (s : Shape) (ns : List ℕ) → label_of (filled (items s) ns) ≡ None
no_label (shapes.Move p) ns = refl
no_label s ns = refl

abbrev pub line_of : Op → Line
line_of op = record { label = None; body = Instruction (shape_of op) (map Number (values_of op)) }

line_is : (l : Line) (o : Option (List ℕ)) (b : Body) → l.label ≡ o → l.body ≡ b → l ≡ record { label = o; body = b }
line_is l o b e f =
    let first : Option (List ℕ) → Line = λ x. record { label = x; body = l.body } in
    let second : Body → Line = λ x. record { label = o; body = x } in
    ap first e ∙ ap second f

pub line_again : (op : Op) (l : Line) → IsSpelled op → IsLine (text_of op) l → l ≡ line_of op
line_again op l h is =
    let fits : FitsHoles (items (shape_of op)) (values_of op) = fits_holes op h.fields h in
    let label : l.label ≡ None = is.label ∙ ap label_of (text_tokens op h) ∙ no_label (shape_of op) (values_of op) in
    let has_body : IsBody (filled (items (shape_of op)) (values_of op)) l.body = rw (text_tokens op h, unlabelled_form (shape_of op) (values_of op)) at is.body in
    let body : l.body ≡ Instruction (shape_of op) (map Number (values_of op)) =
    body_is_form (shape_of op) (filled (items (shape_of op)) (values_of op)) l.body (matches_filled (items (shape_of op)) (values_of op) fits) has_body
    ∙ ap (λ (vs : List Token). Instruction (shape_of op) vs) (values_filled (items (shape_of op)) (values_of op) fits) in
    line_is l None (Instruction (shape_of op) (map Number (values_of op))) label body

pub empty_line : (l : Line) → IsLine [] l → l ≡ record { label = None; body = Nothing }
empty_line l is = line_is l None Nothing (is.label ∙ ap label_of tokens_in_empty) (body_is_nothing l.body (rw tokens_in_empty at is.body))

-- ---- and the lines of a text

not_true : (x : Bool) → not x ≡ true → x ≡ false
not_true true h = absurd (false≢true h)
not_true false h = refl

pub split_plain : (xs ys : List ℕ) → list_all is_plain xs ≡ true → lines_of (xs ++ 10 ∷ ys) ≡ xs ∷ lines_of ys
split_plain [] ys h = refl
split_plain (x ∷ xs) ys h =
    let (one, more) = and_parts (is_plain x) (list_all is_plain xs) h in
    let (a, b) = and_parts (not (nat_eq x 59)) (not (nat_eq x 10)) one in
    rw (not_true (nat_eq x 10) b, split_plain xs ys more) refl

abbrev pub lines_with : List Op → List Line
lines_with [] = record { label = None; body = Nothing } ∷ []
lines_with (op ∷ ops) = line_of op ∷ lines_with ops

first_again : (op : Op) (ops : List Op) (ls : List Line) → IsSpelled op → AreLines (text_of op ∷ lines_of (texts_of ops)) ls → ((ms : List Line) → AreLines (lines_of (texts_of ops)) ms → ms ≡ lines_with ops) → ls ≡ line_of op ∷ lines_with ops
first_again op ops [] h are rest = absurd are
first_again op ops (l ∷ ls) h are rest = let e : l ≡ line_of op = line_again op l h are.0 in let f : ls ≡ lines_with ops = rest ls are.1 in rw (e, f) refl

pub lines_again : (ops : List Op) (ls : List Line) → AllByRecursion IsSpelled ops → AreLines (lines_of (texts_of ops)) ls → ls ≡ lines_with ops
lines_again [] [] all are = absurd are
lines_again [] (l ∷ []) all are = ap (λ (m : Line). m ∷ []) (empty_line l are.0)
lines_again [] (l ∷ m ∷ ms) all are = absurd are.1
lines_again (op ∷ ops) ls all are =
    first_again op ops ls all.0 (rw (split_plain (text_of op) (texts_of ops) (text_plain op all.0)) at are) (λ ms k. lines_again ops ms all.1 k)
