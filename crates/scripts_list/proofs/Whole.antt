-- The text parts of a listing assemble to the same words.
use Rattle.std.proofs.Common.{◌≡◌, ℕ, zero, suc, ◌+◌, ◌<◌, ◌≤◌, List, [], ◌∷◌, ◌++◌, length, map, nat_le, Bool, true, false, not, Option, Some, None, Result, Ok, Err, refl, sym, ◌∙◌, ap, arith}
use Rattle.std.proofs.lemmas.Bool.Decides.{nat_tests}
use Rattle.std.specs.List.{AllByRecursion}
use Rattle.scripts_ops.specs.declared.values.Op.{Op}
use Rattle.scripts_forms.specs.declared.shapes.Item.{Item}
use Rattle.scripts_forms.specs.declared.shapes.Item.TheVariants as item
use Rattle.scripts_forms.specs.Shapes.{items}
use Rattle.scripts_forms.specs.Tokens.{Token, Number}
use Rattle.scripts_forms.specs.Lines.{Line, AreLines, lines_of}
use Rattle.scripts_asm.specs.Assembled.{Givings, Judged, numbers, numbers_of, all_known, is_unknown, fault_of, words_of, words_of_op, judged, names_from, first_giving, assembled, unless, behind}
use Rattle.scripts_asm.specs.declared.faults.Kind.{Kind}
use Rattle.scripts_list.specs.Texts.{shape_of, values_of}
use Rattle.scripts_list.specs.Filled.{FitsHoles}
use Rattle.scripts_list.specs.RoundTrip.{IsSpelled, words_of_ops, texts_of, RoundTrip}
use Rattle.scripts_list.proofs.Shown.{fits_holes, op_again, allowed_again}
use Rattle.scripts_list.proofs.Again.{line_of, lines_with, lines_again}

is_within : (n most : ℕ) → n ≤ most → nat_le n most ≡ true
is_within n most h = grind (arith, nat_tests)

numbers_again : (first : Givings) (is : List Item) (ns : List ℕ) → FitsHoles is ns → numbers first is (map Number ns) ≡ map Some ns
numbers_again first [] [] fits = refl
numbers_again first [] (n ∷ ns) fits = absurd fits
numbers_again first (item.Fixed w ∷ is) ns fits = numbers_again first is ns fits
numbers_again first (item.Mark m ∷ is) ns fits = numbers_again first is ns fits
numbers_again first (item.Value most ∷ is) [] fits = absurd fits
numbers_again first (item.Value most ∷ is) (n ∷ ns) fits = rw (is_within n most fits.0, numbers_again first is ns fits.2) refl

known_again : (ns : List ℕ) → all_known (map Some ns) ≡ true
known_again [] = refl
known_again (n ∷ ns) = known_again ns

none_unknown : (first : Givings) (ns : List ℕ) → is_unknown first (map Number ns) ≡ false
none_unknown first [] = refl
none_unknown first (n ∷ ns) = none_unknown first ns

not_yet : (count : ℕ) → count < 1024 → nat_le 1024 count ≡ false
not_yet count h = grind (arith, nat_tests)

no_fault : (first : Givings) (k count : ℕ) (op : Op) → IsSpelled op → count < 1024 → fault_of first k count (line_of op) ≡ None
no_fault first k count op h l =
    rw (numbers_again first (items (shape_of op)) (values_of op) (fits_holes op h.fields h), allowed_again op h.fields, none_unknown first (values_of op), known_again (values_of op), not_yet count l) refl

words_again : (first : Givings) (op : Op) → IsSpelled op → words_of (line_of op).body (numbers_of first (line_of op).body) ≡ words_of_op op
words_again first op h = rw (numbers_again first (items (shape_of op)) (values_of op) (fits_holes op h.fields h), op_again op h.fields) refl

judged_again : (first : Givings) (k count n : ℕ) (ops : List Op) → AllByRecursion IsSpelled ops → count + length ops ≤ 1024 → judged first k count n (lines_with ops) ≡ Ok (words_of_ops ops)
judged_again first k count n [] all l = refl
judged_again first k count n (op ∷ ops) all l =
    let more : Judged = judged first (k + 0) (count + 1) (n + 1) (lines_with ops) in
    let here : Option Kind → Judged = λ f. unless f n (behind (words_of (line_of op).body (numbers_of first (line_of op).body)) more) in
    let front : List ℕ → Judged = λ ws. behind ws more in
    let back : Judged → Judged = λ j. behind (words_of_op op) j in
    ap here (no_fault first k count op all.0 (omega arith))
    ∙ ap front (words_again first op all.0)
    ∙ ap back (judged_again first (k + 0) (count + 1) (n + 1) ops all.1 (omega arith))

pub round_trip : RoundTrip
round_trip ops all l ls are = rw (lines_again ops ls all are) (judged_again (first_giving 0 (names_from 0 (lines_with ops))) 0 0 1 ops all (omega arith))
