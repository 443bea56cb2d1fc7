-- How the tokens of a text go on from its front.
use Rattle.std.proofs.Common.{◌≡◌, ℕ, zero, suc, ◌+◌, ◌*◌, ◌<◌, ◌≤◌, Bool, true, false, not, ◌&&◌, cond, List, [], ◌∷◌, ◌++◌, ◌-◌, get_or, length, take, drop, map, filter, refl, sym, ◌∙◌, ap, subst, arith, nat_eq, min, Option, Some, None, ◌⊎◌, inl, inr}
use Rattle.std.proofs.lemmas.Grind.{common_steps}
use Rattle.std.proofs.lemmas.Bool.{cases_Bool}
use Rattle.std.specs.List.{prefix_len, list_all}
use Rattle.std.specs.Char.{is_digit, digit_value}
use Rattle.std.specs.Str.Parse.{digits_value_after}
use Rattle.scripts_forms.specs.Tokens.{Token, in_run, is_blank, is_mark, onto, pieces_of, first_in_run, is_gap, token_of, run_token, mark_token, tokens_in, numeral, numeral_after}

and_false : (x : Bool) → (x && false) ≡ false
and_false true = refl
and_false false = refl

pub take_one_more : (n b : ℕ) (xs : List ℕ) → take (1 + n) (b ∷ xs) ≡ b ∷ take n xs
take_one_more n b xs = let e : 1 + n ≡ suc n = omega arith in rw e refl

drop_one_more : (n b : ℕ) (xs : List ℕ) → drop (1 + n) (b ∷ xs) ≡ drop n xs
drop_one_more n b xs = let e : 1 + n ≡ suc n = omega arith in rw e refl

pub onto_other : (b : ℕ) (ps : List (List ℕ)) → in_run b ≡ false → onto b ps ≡ (b ∷ []) ∷ ps
onto_other b [] h = refl
onto_other b (p ∷ ps) h = rw h refl

onto_run : (b : ℕ) (p : List ℕ) (ps : List (List ℕ)) → in_run b ≡ true → first_in_run p ≡ true → onto b (p ∷ ps) ≡ (b ∷ p) ∷ ps
onto_run b p ps h k = rw (h, k) refl

onto_before_other : (b : ℕ) (p : List ℕ) (ps : List (List ℕ)) → first_in_run p ≡ false → onto b (p ∷ ps) ≡ (b ∷ []) ∷ p ∷ ps
onto_before_other b p ps k = rw (k, and_false) refl

-- the front of a run, and what is behind it
Splits : ℕ → List ℕ → Type 0
Splits b bs = pieces_of (b ∷ bs) ≡ take (prefix_len in_run (b ∷ bs)) (b ∷ bs) ∷ pieces_of (drop (prefix_len in_run (b ∷ bs)) (b ∷ bs))

first_of_run : (c : ℕ) (cs : List ℕ) → in_run c ≡ true → first_in_run (take (prefix_len in_run (c ∷ cs)) (c ∷ cs)) ≡ true
first_of_run c cs k = rw (k, take_one_more (prefix_len in_run cs) c cs) k

splits_more : (b c : ℕ) (cs : List ℕ) → in_run b ≡ true → in_run c ≡ true → Splits c cs → Splits b (c ∷ cs)
unfolding Splits
splits_more b c cs h k ih =
    let n : ℕ = prefix_len in_run (c ∷ cs) in
    let joined : onto b (take n (c ∷ cs) ∷ pieces_of (drop n (c ∷ cs))) ≡ (b ∷ take n (c ∷ cs)) ∷ pieces_of (drop n (c ∷ cs)) = onto_run b (take n (c ∷ cs)) (pieces_of (drop n (c ∷ cs))) h (first_of_run c cs k) in
    let regrouped : (b ∷ take n (c ∷ cs)) ∷ pieces_of (drop n (c ∷ cs)) ≡ take (prefix_len in_run (b ∷ c ∷ cs)) (b ∷ c ∷ cs) ∷ pieces_of (drop (prefix_len in_run (b ∷ c ∷ cs)) (b ∷ c ∷ cs)) = rw (h, take_one_more n b (c ∷ cs), drop_one_more n b (c ∷ cs)) refl in
    ap (onto b) ih ∙ joined ∙ regrouped

splits_last : (b c : ℕ) (cs : List ℕ) → in_run b ≡ true → in_run c ≡ false → Splits b (c ∷ cs)
unfolding Splits
splits_last b c cs h k = rw (h, k, onto_other c (pieces_of cs) k) (onto_before_other b (c ∷ []) (pieces_of cs) k)

splits : (b : ℕ) (bs : List ℕ) → in_run b ≡ true → Splits b bs
splits b [] h = unfold Splits in rw h refl
splits b (c ∷ cs) h = elim (cases_Bool (in_run c)) [ inl k ↦ splits_more b c cs h k (splits c cs k) | inr k ↦ splits_last b c cs h k ]

pub not_blank : (b : ℕ) → in_run b ≡ true → is_blank b ≡ false
not_blank b h = grind (arith, common_steps)

run_is_token : (b : ℕ) (bs : List ℕ) → in_run b ≡ true → token_of (take (prefix_len in_run (b ∷ bs)) (b ∷ bs)) ≡ run_token (take (prefix_len in_run (b ∷ bs)) (b ∷ bs))
run_is_token b bs h = rw (h, take_one_more (prefix_len in_run bs) b bs, h) refl

run_is_no_gap : (b : ℕ) (bs : List ℕ) → in_run b ≡ true → is_gap (take (prefix_len in_run (b ∷ bs)) (b ∷ bs)) ≡ false
run_is_no_gap b bs h = rw (h, take_one_more (prefix_len in_run bs) b bs) (not_blank b h)

token_first : (p : List ℕ) (ps : List (List ℕ)) → is_gap p ≡ false → map token_of (filter (λ piece. not (is_gap piece)) (p ∷ ps)) ≡ token_of p ∷ map token_of (filter (λ piece. not (is_gap piece)) ps)
token_first p ps h = rw h refl

pieces_tokens : (b : ℕ) (bs : List ℕ) → in_run b ≡ true → Splits b bs → tokens_in (b ∷ bs) ≡ run_token (take (prefix_len in_run (b ∷ bs)) (b ∷ bs)) ∷ tokens_in (drop (prefix_len in_run (b ∷ bs)) (b ∷ bs))
unfolding tokens_in Splits
pieces_tokens b bs h s =
    let n : ℕ = prefix_len in_run (b ∷ bs) in
    ap (λ (ps : List (List ℕ)). map token_of (filter (λ piece. not (is_gap piece)) ps)) s
    ∙ token_first (take n (b ∷ bs)) (pieces_of (drop n (b ∷ bs))) (run_is_no_gap b bs h)
    ∙ ap (λ (t : Token). t ∷ map token_of (filter (λ piece. not (is_gap piece)) (pieces_of (drop n (b ∷ bs))))) (run_is_token b bs h)

pub tokens_in_run : (b : ℕ) (bs : List ℕ) → in_run b ≡ true → tokens_in (b ∷ bs) ≡ run_token (take (prefix_len in_run (b ∷ bs)) (b ∷ bs)) ∷ tokens_in (drop (prefix_len in_run (b ∷ bs)) (b ∷ bs))
unfolding tokens_in
tokens_in_run b bs h = pieces_tokens b bs h (splits b bs h)

pub tokens_in_blank : (b : ℕ) (bs : List ℕ) → in_run b ≡ false → is_blank b ≡ true → tokens_in (b ∷ bs) ≡ tokens_in bs
unfolding tokens_in
tokens_in_blank b bs h k = rw (onto_other b (pieces_of bs) h, k) refl

pub tokens_in_mark : (b : ℕ) (bs : List ℕ) → in_run b ≡ false → is_blank b ≡ false → tokens_in (b ∷ bs) ≡ mark_token b ∷ tokens_in bs
unfolding tokens_in
tokens_in_mark b bs h k = rw (onto_other b (pieces_of bs) h, k, h) refl

capped : (n radix d : ℕ) → min (min n 4294967296 * radix + d) 4294967296 ≡ min (n * radix + d) 4294967296
capped n radix d = grind arith

pub numeral_after_is : (radix n : ℕ) (bs : List ℕ) → numeral_after radix (min n 4294967296) bs ≡ cond (list_all (λ c. is_digit c radix) bs) (Some (min (digits_value_after radix n bs) 4294967296)) None
numeral_after_is radix n [] = refl
numeral_after_is radix n (b ∷ bs) = elim (cases_Bool (is_digit b radix)) [ inl k ↦ rw (k, capped n radix (digit_value b)) (numeral_after_is radix (n * radix + digit_value b) bs) | inr k ↦ rw k refl ]

pub numeral_is : (radix : ℕ) (bs : List ℕ) → 0 < length bs → numeral radix bs ≡ numeral_after radix 0 bs
numeral_is radix [] h = absurd (omega arith)
numeral_is radix (b ∷ bs) h = sym (numeral_after_is radix 0 (b ∷ bs))

rest_is : (b : ℕ) (bs : List ℕ) → take (length (b ∷ bs) - 1) (drop 1 (b ∷ bs)) ≡ bs
rest_is b bs = grind (arith, common_steps)

pub first_blank : (xs : List ℕ) → 0 < length xs → in_run (get_or xs 0 0) ≡ false → is_blank (get_or xs 0 0) ≡ true → tokens_in xs ≡ tokens_in (take (length xs - 1) (drop 1 xs))
first_blank [] h = absurd (omega arith)
first_blank (b ∷ bs) h = λ j k. tokens_in_blank b bs j k ∙ ap tokens_in (sym (rest_is b bs))

pub first_mark : (xs : List ℕ) → 0 < length xs → in_run (get_or xs 0 0) ≡ false → is_blank (get_or xs 0 0) ≡ false → tokens_in xs ≡ mark_token (get_or xs 0 0) ∷ tokens_in (take (length xs - 1) (drop 1 xs))
first_mark [] h = absurd (omega arith)
first_mark (b ∷ bs) h = λ j k. tokens_in_mark b bs j k ∙ ap (λ (ts : List ℕ). mark_token b ∷ tokens_in ts) (sym (rest_is b bs))

pub tokens_in_empty : tokens_in [] ≡ []
unfolding tokens_in
tokens_in_empty = refl

pub tokens_in_none : (xs : List ℕ) → length xs ≡ 0 → tokens_in xs ≡ []
tokens_in_none [] h = tokens_in_empty
tokens_in_none (x ∷ xs) h = absurd (omega arith)

pub first_run : (xs : List ℕ) → 0 < length xs → in_run (get_or xs 0 0) ≡ true → tokens_in xs ≡ run_token (take (prefix_len in_run xs) xs) ∷ tokens_in (drop (prefix_len in_run xs) xs)
first_run [] h = absurd (omega arith)
first_run (b ∷ bs) h = λ k. tokens_in_run b bs k
