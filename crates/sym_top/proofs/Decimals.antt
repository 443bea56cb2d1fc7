-- Decimal numbers, and what `parse` gives of them.
use Rattle.std.proofs.Common.{◌≡◌, ℕ, ◌+◌, ◌*◌, ◌-◌, ◌^◌, ◌<◌, true, List, [], ◌∷◌, length, Result, Ok, Err, IfSome, IsNone, refl, sym, ap, ◌∙◌, arith, inl, inr, rules}
use Rattle.std.specs.Str.{all_ascii_digits}
use Rattle.std.specs.Str.Parse.{ParsesUnsigned}
use Rattle.std.specs.Fmt.{decimal}
use Rattle.std.specs.Result.{result_ok}
use Rattle.std.proofs.lemmas.Result.{OkIff-at_ok}
use Rattle.std.proofs.lemmas.Str.Parse.{IsNumeralModel, numerals_by_fold, parse_plain}
use Rattle.std.proofs.lemmas.Bool.{cases_lt}
use Rattle.std.proofs.lemmas.Fmt.{decimal-digits_value, decimal_nonempty, first_decimal, decimal_digit, parse-decimal}
use Rattle.sym_top.specs.CommandLine.{IsNumber, IsPlain}

-- the number of digits, read on from one
value_after : ℕ → List ℕ → ℕ
value_after n [] = n
value_after n (d ∷ ds) = value_after (10 * n + (d - 48)) ds

own : IsNumeralModel (λ ds. all_ascii_digits ds ≡ true) (value_after 0)
unfolding value_after
own = numerals_by_fold _ (search rules) value_after (search rules)

-- what `parse` gives of a plain word is what the word spells
pub number_of_parse : {E : Type 0} (word : List ℕ) (r : Result ℕ E) (n : ℕ) → IsPlain word → ParsesUnsigned 32 10 word r → r ≡ Ok n → IsNumber word n
number_of_parse word r n plain parses ok =
    let when = OkIff-at_ok r _ _ n (parse_plain own 32 word r parses plain.unsigned) ok in
    let some : 0 < length word = plain.some in
    let wide : value_after 0 word < 2 ^ 64 = omega (arith, when.0.2) in
    let spelled : decimal (value_after 0 word) ≡ word = decimal-digits_value own word when.0.0 some plain.no_zeros wide in
    record { is = sym spelled ∙ ap decimal (sym when.1); fits = omega (arith, when.0.2, when.1) }

-- a number's decimal is a plain word
plain_by_first : (n : ℕ) → n < 2 ^ 64 → IsPlain (decimal n)
plain_by_first n wide =
    elim (cases_lt 0 n) [
      | inl more ↦ record {
        some = decimal_nonempty n wide;
        unsigned = λ e. absurd (omega (arith, first_decimal n more wide, e));
        no_zeros = λ e. absurd (omega (arith, first_decimal n more wide, e));
      }
      | inr none ↦
          let none_is : decimal n ≡ 48 ∷ [] = let zero_is : n ≡ 0 = omega arith in decimal_digit n (omega arith) ∙ ap (λ (k : ℕ). (48 + k) ∷ []) zero_is in
          rw none_is (record { some = omega arith; unsigned = λ e. absurd (omega (arith, e)); no_zeros = λ e. refl })
    ]

plain_decimal : (word : List ℕ) (n : ℕ) → IsNumber word n → IsPlain word
plain_decimal word n number = rw number.is (plain_by_first n (omega (arith, number.fits)))

-- a word that isn't plain spells no number
pub unplain_spells_none : (word : List ℕ) → (IsPlain word → ⊥) → (n : ℕ) → IsNumber word n → ⊥
unplain_spells_none word unplain n number = unplain (plain_decimal word n number)

-- the answer to `parse(..).ok()`, found
pub some_of_parse : {E : Type 0} (word : List ℕ) (r : Result ℕ E) → IsPlain word → ParsesUnsigned 32 10 word r → IfSome (result_ok r) (IsNumber word)
some_of_parse {E = E} word (Ok n) plain parses = let r : Result ℕ E = Ok n in let same : r ≡ Ok n = refl in number_of_parse {E = E} word r n plain parses same
some_of_parse word (Err e) plain parses = tt

-- and not found
pub none_of_parse : {E : Type 0} (word : List ℕ) (r : Result ℕ E) → ParsesUnsigned 32 10 word r → IsNone (result_ok r) → (n : ℕ) → IsNumber word n → ⊥
none_of_parse word (Ok m) parses none n number = absurd cc
none_of_parse word (Err e) parses none n number = absurd (let same : Err e ≡ Ok n = parse-decimal 32 n word (Err e) number.fits (omega (arith, number.fits)) number.is parses in cc)
