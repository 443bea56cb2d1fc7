-- Every bit and every fourth bit of a word, and the least bit of a set among them.
use Rattle.std.proofs.Common.{◌≡◌, ℕ, zero, suc, ◌+◌, ◌-◌, ◌*◌, ◌/◌, ◌%◌, ◌^◌, ◌<◌, ◌≤◌, ◌⊎◌, Bool, true, false, cond, eqb, List, [], ◌∷◌, length, get_or, refl, sym, ap, ◌∙◌, subst, ⊎_elim, arith}
use Rattle.std.specs.Prelude.{bit_and}
use Rattle.std.specs.Int.{bit_at, w64, trailing_zeros}
use Rattle.std.proofs.lemmas.Bool.{cases_eq, cases_lt, eqb-true, eq-eqb, ne_eqb, false≢true}
use Rattle.std.proofs.lemmas.Nat.Bits.{bit_at-zero, bit_at-lt, bit_at-trailing_zeros, bit_at_and, bit_at_ones}
use Rattle.std.proofs.lemmas.List.{get_or_past}
use Rattle.byte_set.proofs.Bits.{no_word}
use Rattle.byte_set.specs.Bits.{bit_in, holds, IsMask}
use Rattle.byte_set.specs.Sets.{IsEmptyOf, IsLeast}

-- ---- masks

pub mask_of_all : IsMask (2 ^ 64 - 1) 1
mask_of_all = record {
  set = λ i low _. bit_at_ones 64 i low;
  only = λ i low _. omega arith;
}

-- bit i of the word of every fourth bit is as it is to be; so are all below k
abbrev as_number : Bool → ℕ
as_number true = 1
as_number false = 0

abbrev is_fourth : ℕ → Bool
is_fourth i = eqb (bit_at 0x1111111111111111 i) (as_number (eqb (i % 4) 0))

abbrev are_fourths : ℕ → Bool
are_fourths zero = true
are_fourths (suc k) = cond (is_fourth k) (are_fourths k) false

both : (a b : Bool) → cond a b false ≡ true → (a ≡ true) × (b ≡ true)
both true b e = (refl, e)
both false b e = absurd (false≢true e)

fourth_at : (k i : ℕ) → are_fourths k ≡ true → i < k → is_fourth i ≡ true
fourth_at zero i e low = absurd (omega (arith, low))
fourth_at (suc k) i e low =
    let parts = both (is_fourth k) (are_fourths k) e in
    ⊎_elim
    (λ (less : i < k). fourth_at k i parts.1 less)
    (λ (ge : k ≤ i). let at : i ≡ k = omega (arith, ge, low) in ap is_fourth at ∙ parts.0)
    (cases_lt i k)

fourth_bit : (i : ℕ) → i < 64 → bit_at 0x1111111111111111 i ≡ as_number (eqb (i % 4) 0)
fourth_bit i low = eqb-true (bit_at 0x1111111111111111 i) (as_number (eqb (i % 4) 0)) (fourth_at 64 i refl low)

pub mask_of_fourths : IsMask 0x1111111111111111 4
mask_of_fourths = record {
  set = λ i low step. fourth_bit i low ∙ ap as_number (eq-eqb (i % 4) 0 step);
  only = λ i low one. ⊎_elim
      (λ step. step)
      (λ ne. absurd (let zero_bit = fourth_bit i low ∙ ap as_number (ne_eqb (i % 4) 0 ne) in omega (arith, zero_bit, one)))
      (cases_eq (i % 4) 0);
}

-- ---- the least bit of a masked word

-- a bit that the mask keeps
kept : (y mask apart i : ℕ) → IsMask mask apart → i < 64 → i % apart ≡ 0 → bit_at (bit_and y mask) i ≡ bit_at y i
kept y mask apart i m low step = bit_at_and y mask i ∙ omega (arith, m.set i low step, bit_at-lt y i)

in_mask : (y mask apart i : ℕ) → IsMask mask apart → i < 64 → bit_at (bit_and y mask) i ≡ 1 → i % apart ≡ 0
in_mask y mask apart i m low one = m.only i low (omega (arith, bit_at_and y mask i, one, bit_at-lt mask i, bit_at-lt y i))

in_word : (j apart : ℕ) → (apart ≡ 1) ⊎ (apart ≡ 4) → j % apart ≡ 0 → j % 64 % apart ≡ 0
in_word j apart h step = ⊎_elim
    (λ (e : apart ≡ 1). subst (λ (a : ℕ). j % 64 % a ≡ 0) (sym e) (omega arith))
    (λ (e : apart ≡ 4). let four : j % 4 ≡ 0 = subst (λ (a : ℕ). j % a ≡ 0) e step in
    subst (λ (a : ℕ). j % 64 % a ≡ 0) (sym e) (omega (arith, four)))
    h

of_word : (w t apart : ℕ) → (apart ≡ 1) ⊎ (apart ≡ 4) → t % apart ≡ 0 → (64 * w + t) % apart ≡ 0
of_word w t apart h step = ⊎_elim
    (λ (e : apart ≡ 1). subst (λ (a : ℕ). (64 * w + t) % a ≡ 0) (sym e) (omega arith))
    (λ (e : apart ≡ 4). let four : t % 4 ≡ 0 = subst (λ (a : ℕ). t % a ≡ 0) e step in
    subst (λ (a : ℕ). (64 * w + t) % a ≡ 0) (sym e) (omega (arith, four)))
    h

-- a bit of a masked word is clear, so the bit of the word is
masked_clear : (ws : List ℕ) (mask apart j x : ℕ) → (apart ≡ 1) ⊎ (apart ≡ 4) → IsMask mask apart → j % apart ≡ 0
    → x ≡ bit_and (get_or ws (j / 64) 0) mask → bit_at x (j % 64) ≡ 0 → holds ws j ≡ false
masked_clear ws mask apart j x h m step e clear =
    let low : j % 64 < 64 = omega arith in
    let same = kept (get_or ws (j / 64) 0) mask apart (j % 64) m low (in_word j apart h step) in
    ne_eqb (bit_in ws j) 1 (λ one. omega (arith, one, same, ap (λ (v : ℕ). bit_at v (j % 64)) e, clear))

pub none_of : (ws : List ℕ) (mask apart k : ℕ) → (apart ≡ 1) ⊎ (apart ≡ 4) → IsMask mask apart → length ws ≤ k
    → ((w : ℕ) → w < k → bit_and (get_or ws w 0) mask ≡ 0) → IsEmptyOf (holds ws) apart
none_of ws mask apart k h m few zero_words n step =
    ⊎_elim
    (λ (low : n / 64 < k). masked_clear ws mask apart n 0 h m step (sym (zero_words (n / 64) low)) (bit_at-zero (n % 64)))
    (λ (past : k ≤ n / 64). no_word ws n (get_or_past ws (n / 64) 0 (omega (arith, few, past))))
    (cases_lt (n / 64) k)

pub least_of_word : (ws : List ℕ) (mask apart w x : ℕ) → (apart ≡ 1) ⊎ (apart ≡ 4) → IsMask mask apart → x ≡ bit_and (get_or ws w 0) mask
    → 0 < x → x < 2 ^ 64 → ((j : ℕ) → j < w → bit_and (get_or ws j 0) mask ≡ 0) → IsLeast (holds ws) apart (64 * w + trailing_zeros w64 x)
least_of_word ws mask apart w x h m e some small before =
    let tz : (trailing_zeros w64 x < 64) × (bit_at x (trailing_zeros w64 x) ≡ 1) × ((i : ℕ) → i < trailing_zeros w64 x → bit_at x i ≡ 0) = bit_at-trailing_zeros w64 x some small in
    let t = trailing_zeros w64 x in
    let lt : t < 64 = tz.0 in
    let quotient : (64 * w + t) / 64 ≡ w = omega (arith, lt) in
    let rest : (64 * w + t) % 64 ≡ t = omega (arith, lt) in
    let set_bit : bit_at (bit_and (get_or ws w 0) mask) t ≡ 1 = ap (λ (v : ℕ). bit_at v t) (sym e) ∙ tz.1 in
    let step : t % apart ≡ 0 = in_mask (get_or ws w 0) mask apart t m lt set_bit in
    record {
      step = of_word w t apart h step;
      one = eq-eqb _ 1 (ap (λ k. bit_at (get_or ws k 0) ((64 * w + t) % 64)) quotient ∙ ap (λ k. bit_at (get_or ws w 0) k) rest
          ∙ sym (kept (get_or ws w 0) mask apart t m lt step) ∙ set_bit);
      below = λ j less divides. ⊎_elim
          (λ (lower : j / 64 < w). masked_clear ws mask apart j 0 h m divides (sym (before (j / 64) lower)) (bit_at-zero (j % 64)))
          (λ (high : w ≤ j / 64). let at : j / 64 ≡ w = omega (arith, less, lt, high) in
          let inside : j % 64 < t = omega (arith, at, less) in
          masked_clear ws mask apart j x h m divides (e ∙ ap (λ (k : ℕ). bit_and (get_or ws k 0) mask) (sym at)) (tz.2 (j % 64) inside))
          (cases_lt (j / 64) w);
    }

-- ---- all bytes

pub whole_words : (ws : List ℕ) → ((w : ℕ) → w < 4 → get_or ws w 0 ≡ 2 ^ 64 - 1) → (n : ℕ) → n < 256 → holds ws n ≡ true
whole_words ws all n low =
    eq-eqb _ 1 (ap (λ (v : ℕ). bit_at v (n % 64)) (all (n / 64) (omega (arith, low))) ∙ bit_at_ones 64 (n % 64) (omega arith))

pub four_words : (m w : ℕ) → w < 4 → get_or (m ∷ m ∷ m ∷ m ∷ []) w 0 ≡ m
four_words m zero low = refl
four_words m (suc zero) low = refl
four_words m (suc (suc zero)) low = refl
four_words m (suc (suc (suc zero))) low = refl
four_words m (suc (suc (suc (suc k)))) low = absurd (omega (arith, low))
