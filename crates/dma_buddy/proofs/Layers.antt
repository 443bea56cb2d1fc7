-- Words of bits: one bit set or cleared, the least bit of a word, and words that sum up others.
use Rattle.std.proofs.Common.{◌≡◌, ◌↔◌, ℕ, ◌+◌, ◌*◌, ◌/◌, ◌%◌, ◌^◌, ◌<◌, ◌≤◌, ◌⊎◌, Bool, true, false, eqb, List, length, get_or, set, replicate, refl, sym, ap, ◌∙◌, subst, inl, inr, ⊎_elim, arith, get_or-set_same, get_or-set_other, length-set}
use Rattle.std.specs.Prelude.{bit_and, bit_or, IsTrue, not}
use Rattle.std.specs.Int.{bit_at, bit_not, w64, trailing_zeros}
use Rattle.std.proofs.lemmas.Bool.{cases_eq, cases_lt, eqb-true, eq-eqb, ne_eqb, false_from_ne_true, false≢true}
use Rattle.std.proofs.lemmas.List.{get_or_past, same_lists, length-replicate, get_or-replicate}
use Rattle.std.proofs.lemmas.List.FromFn.{get_or-map-range_with_len, length-map-range_with_len}
use Rattle.std.proofs.lemmas.Nat.Bits.{bit_at_set_same, bit_at_set_other, bit_at_clear_same, bit_at_clear_other, bit_at-zero, bit_at-lt, bit_at-trailing_zeros, and_pow}
use Rattle.std.proofs.lemmas.Nat.{one_shl, pow_pos}
use Rattle.dma_buddy.specs.Bits.{bit_in, flags, HasSet, HasCleared, SumsUp, IsLeastBit, IsLayered}

-- ---- one word

rest_below : (i : ℕ) → i % 64 < 64
rest_below i = omega arith

pub set_bit : (ws : List ℕ) (i x : ℕ) → i / 64 < length ws → x ≡ get_or ws (i / 64) 0 → HasSet ws i (set ws (i / 64) (bit_or x (1 * 2 ^ (i % 64) % 2 ^ 64)))
set_bit ws i x within e = record {
  count = length-set ws (i / 64) _;
  bit = ap (λ v. bit_at v (i % 64)) (get_or-set_same ws (i / 64) _ 0 within) ∙ bit_at_set_same w64 x (i % 64) (rest_below i);
  others = λ j ne. ⊎_elim
      (λ same. ap (λ w. bit_at (get_or (set ws (i / 64) (bit_or x (1 * 2 ^ (i % 64) % 2 ^ 64))) w 0) (j % 64)) same
      ∙ ap (λ v. bit_at v (j % 64)) (get_or-set_same ws (i / 64) _ 0 within)
      ∙ bit_at_set_other w64 x (i % 64) (rest_below i) (j % 64) (omega arith)
      ∙ ap (λ v. bit_at v (j % 64)) (e ∙ ap (λ w. get_or ws w 0) (sym same)))
      (λ other. ap (λ v. bit_at v (j % 64)) (get_or-set_other ws (i / 64) (j / 64) _ 0 other))
      (cases_eq (j / 64) (i / 64));
  other_words = λ w ne. get_or-set_other ws (i / 64) w _ 0 ne;
}

pub clear_bit : (ws : List ℕ) (i x : ℕ) → i / 64 < length ws → x ≡ get_or ws (i / 64) 0 → HasCleared ws i (set ws (i / 64) (bit_and x (bit_not w64 (1 * 2 ^ (i % 64) % 2 ^ 64))))
clear_bit ws i x within e = record {
  count = length-set ws (i / 64) _;
  bit = ap (λ v. bit_at v (i % 64)) (get_or-set_same ws (i / 64) _ 0 within) ∙ bit_at_clear_same w64 x (i % 64) (rest_below i);
  others = λ j ne. ⊎_elim
      (λ same. ap (λ w. bit_at (get_or (set ws (i / 64) (bit_and x (bit_not w64 (1 * 2 ^ (i % 64) % 2 ^ 64)))) w 0) (j % 64)) same
      ∙ ap (λ v. bit_at v (j % 64)) (get_or-set_same ws (i / 64) _ 0 within)
      ∙ bit_at_clear_other w64 x (i % 64) (rest_below i) (j % 64) (rest_below j) (omega arith)
      ∙ ap (λ v. bit_at v (j % 64)) (e ∙ ap (λ w. get_or ws w 0) (sym same)))
      (λ other. ap (λ v. bit_at v (j % 64)) (get_or-set_other ws (i / 64) (j / 64) _ 0 other))
      (cases_eq (j / 64) (i / 64));
  other_words = λ w ne. get_or-set_other ws (i / 64) w _ 0 ne;
}

pub bit_is : (ws : List ℕ) (i : ℕ) → (bit_in ws i ≡ 0) ⊎ (bit_in ws i ≡ 1)
bit_is ws i = ⊎_elim (λ z. inl z) (λ ne. inr (omega (arith, bit_at-lt (get_or ws (i / 64) 0) (i % 64)))) (cases_eq (bit_in ws i) 0)

pub test_bit : (ws : List ℕ) (i x : ℕ) → x ≡ get_or ws (i / 64) 0 → IsTrue (not (eqb (bit_and x (1 * 2 ^ (i % 64) % 2 ^ 64)) 0)) ↔ (bit_in ws i ≡ 1)
test_bit ws i x e =
    let at : bit_at x (i % 64) ≡ bit_in ws i = ap (λ v. bit_at v (i % 64)) e in
    let one : 1 * 2 ^ (i % 64) % 2 ^ 64 ≡ 2 ^ (i % 64) = one_shl (i % 64) 64 (rest_below i) in
    let masked : bit_and x (1 * 2 ^ (i % 64) % 2 ^ 64) ≡ bit_at x (i % 64) * 2 ^ (i % 64) = ap (λ m. bit_and x m) one ∙ and_pow x (i % 64) in
    ⊎_elim
    (λ (z : bit_in ws i ≡ 0). let none : bit_and x (1 * 2 ^ (i % 64) % 2 ^ 64) ≡ 0 = masked ∙ ap (λ b. b * 2 ^ (i % 64)) (at ∙ z) ∙ omega arith in (
      (λ t. absurd (false≢true (subst (λ (b : Bool). not b ≡ true) (eq-eqb (bit_and x (1 * 2 ^ (i % 64) % 2 ^ 64)) 0 none) t))),
      (λ o. absurd (omega (arith, z, o))),
    ))
    (λ (o : bit_in ws i ≡ 1). let some : bit_and x (1 * 2 ^ (i % 64) % 2 ^ 64) ≡ 2 ^ (i % 64) = masked ∙ ap (λ b. b * 2 ^ (i % 64)) (at ∙ o) ∙ omega arith in (
      (λ _. o),
      (λ _. ap not (ne_eqb (bit_and x (1 * 2 ^ (i % 64) % 2 ^ 64)) 0 (λ z. omega (arith, pow_pos (i % 64), some, z)))),
    ))
    (bit_is ws i)

pub least_set : (ws : List ℕ) (w x : ℕ) → x ≡ get_or ws w 0 → 0 < x → x < 2 ^ 64 → bit_in ws (64 * w + trailing_zeros w64 x) ≡ 1
least_set ws w x e some small =
    let tz : (trailing_zeros w64 x < 64) × (bit_at x (trailing_zeros w64 x) ≡ 1) × ((i : ℕ) → i < trailing_zeros w64 x → bit_at x i ≡ 0) = bit_at-trailing_zeros w64 x some small in
    let lt : trailing_zeros w64 x < 64 = tz.0 in
    let quotient : (64 * w + trailing_zeros w64 x) / 64 ≡ w = omega arith in
    let rest : (64 * w + trailing_zeros w64 x) % 64 ≡ trailing_zeros w64 x = omega arith in
    ap (λ k. bit_at (get_or ws k 0) ((64 * w + trailing_zeros w64 x) % 64)) quotient
    ∙ ap (λ k. bit_at (get_or ws w 0) k) rest
    ∙ ap (λ v. bit_at v (trailing_zeros w64 x)) (sym e)
    ∙ tz.1

pub least_below : (ws : List ℕ) (w x : ℕ) → x ≡ get_or ws w 0 → 0 < x → x < 2 ^ 64 → (j : ℕ) → j / 64 ≡ w → j < 64 * w + trailing_zeros w64 x → bit_in ws j ≡ 0
least_below ws w x e some small j at less =
    let tz : (trailing_zeros w64 x < 64) × (bit_at x (trailing_zeros w64 x) ≡ 1) × ((i : ℕ) → i < trailing_zeros w64 x → bit_at x i ≡ 0) = bit_at-trailing_zeros w64 x some small in
    let lt : j % 64 < trailing_zeros w64 x = omega arith in
    ap (λ k. bit_at (get_or ws k 0) (j % 64)) at ∙ ap (λ v. bit_at v (j % 64)) (sym e) ∙ tz.2 (j % 64) lt

pub least_place : (w x : ℕ) → 0 < x → x < 2 ^ 64 → trailing_zeros w64 x < 64
least_place w x some small = (bit_at-trailing_zeros w64 x some small).0

-- ---- a bit and its word

pub word_of_bit : (ws : List ℕ) (i : ℕ) → bit_in ws i ≡ 1 → 0 < get_or ws (i / 64) 0
word_of_bit ws i e = ⊎_elim
    (λ z. absurd (omega (arith, sym e ∙ ap (λ v. bit_at v (i % 64)) z ∙ bit_at-zero (i % 64))))
    (λ ne. omega arith)
    (cases_eq (get_or ws (i / 64) 0) 0)

pub bit_of_zero : (ws : List ℕ) (i : ℕ) → get_or ws (i / 64) 0 ≡ 0 → bit_in ws i ≡ 0
bit_of_zero ws i z = ap (λ v. bit_at v (i % 64)) z ∙ bit_at-zero (i % 64)

pub place_of_word : (ws : List ℕ) (w : ℕ) → 0 < get_or ws w 0 → w < length ws
place_of_word ws w some = ⊎_elim (λ l. l) (λ ge. absurd (omega (arith, get_or_past ws w 0 ge))) (cases_lt w (length ws))

pub place_of_bit : (ws : List ℕ) (i : ℕ) → bit_in ws i ≡ 1 → i / 64 < length ws
place_of_bit ws i e = place_of_word ws (i / 64) (word_of_bit ws i e)

-- ---- sums

pub bit_above : (high low : List ℕ) (i : ℕ) → SumsUp high low → bit_in low i ≡ 1 → bit_in high (i / 64) ≡ 1
bit_above high low i s e = ⊎_elim
    (λ z. absurd (omega (arith, word_of_bit low i e, s.clear (i / 64) z)))
    (λ o. o)
    (bit_is high (i / 64))

pub sums-set : (high low low' high' : List ℕ) (i : ℕ) → SumsUp high low → HasSet low i low' → HasSet high (i / 64) high' → SumsUp high' low'
sums-set high low low' high' i s l h = record {
  room = omega (arith, s.room, l.count, h.count);
  set = λ w e. ⊎_elim
      (λ (same : w ≡ i / 64). subst (λ (k : ℕ). 0 < get_or low' k 0) (sym same) (word_of_bit low' i l.bit))
      (λ other. let one : bit_in high w ≡ 1 = sym (h.others w other) ∙ e in omega (arith, l.other_words w other, s.set w one))
      (cases_eq w (i / 64));
  clear = λ w e. ⊎_elim
      (λ same. absurd (omega (arith, sym (ap (bit_in high') same) ∙ e, h.bit)))
      (λ other. l.other_words w other ∙ s.clear w (sym (h.others w other) ∙ e))
      (cases_eq w (i / 64));
}

pub sums-cleared : (high low low' : List ℕ) (i : ℕ) → SumsUp high low → bit_in low i ≡ 1 → HasCleared low i low' → (get_or low' (i / 64) 0 ≡ 0 → ⊥) → SumsUp high low'
sums-cleared high low low' i s was l some = record {
  room = omega (arith, s.room, l.count);
  set = λ w e. ⊎_elim
      (λ (same : w ≡ i / 64). subst (λ (k : ℕ). 0 < get_or low' k 0) (sym same) (omega (arith, some)))
      (λ other. omega (arith, l.other_words w other, s.set w e))
      (cases_eq w (i / 64));
  clear = λ w e. ⊎_elim
      (λ same. absurd (omega (arith, sym (ap (bit_in high) same) ∙ e, bit_above high low i s was)))
      (λ other. l.other_words w other ∙ s.clear w e)
      (cases_eq w (i / 64));
}

pub sums-emptied : (high low low' high' : List ℕ) (i : ℕ) → SumsUp high low → HasCleared low i low' → get_or low' (i / 64) 0 ≡ 0 → HasCleared high (i / 64) high' → SumsUp high' low'
sums-emptied high low low' high' i s l none h = record {
  room = omega (arith, s.room, l.count, h.count);
  set = λ w e. ⊎_elim
      (λ same. absurd (omega (arith, sym (ap (bit_in high') same) ∙ e, h.bit)))
      (λ other. let one : bit_in high w ≡ 1 = sym (h.others w other) ∙ e in omega (arith, l.other_words w other, s.set w one))
      (cases_eq w (i / 64));
  clear = λ w e. ⊎_elim
      (λ same. ap (λ k. get_or low' k 0) same ∙ none)
      (λ other. l.other_words w other ∙ s.clear w (sym (h.others w other) ∙ e))
      (cases_eq w (i / 64));
}

pub least_down : (high low : List ℕ) (w r : ℕ) → SumsUp high low → IsLeastBit high w → r / 64 ≡ w → bit_in low r ≡ 1 → ((j : ℕ) → j / 64 ≡ w → j < r → bit_in low j ≡ 0) → IsLeastBit low r
least_down high low w r s l at one below = record {
  set = one;
  clear_below = λ j less. ⊎_elim
      (λ same. below j same less)
      (λ other. let before : j / 64 < w = omega arith in bit_of_zero low j (s.clear (j / 64) (l.clear_below (j / 64) before)))
      (cases_eq (j / 64) w);
}

pub none_down : (high low : List ℕ) → SumsUp high low → ((w : ℕ) → bit_in high w ≡ 0) → (i : ℕ) → bit_in low i ≡ 0
none_down high low s none i = bit_of_zero low i (s.clear (i / 64) (none (i / 64)))

pub none_in_top : (top : List ℕ) → length top ≡ 1 → get_or top 0 0 ≡ 0 → (w : ℕ) → bit_in top w ≡ 0
none_in_top top one z w = bit_of_zero top w (⊎_elim
    (λ (s : w / 64 ≡ 0). ap (λ k. get_or top k 0) s ∙ z)
    (λ ne. get_or_past top (w / 64) 0 (omega arith))
    (cases_eq (w / 64) 0))

pub least_of_top : (top : List ℕ) (r : ℕ) → bit_in top r ≡ 1 → ((j : ℕ) → j / 64 ≡ 0 → j < r → bit_in top j ≡ 0) → r / 64 ≡ 0 → IsLeastBit top r
least_of_top top r one below at = record { set = one; clear_below = λ j less. below j (omega arith) less }

-- ---- four layers

module _ (n : ℕ) (low middle high top : List ℕ) where
  pub layered-set : (i : ℕ) → (low' middle' high' top' : List ℕ) → i < n → IsLayered n low middle high top → HasSet low i low' → HasSet middle (i / 64) middle' → HasSet high (i / 64 / 64) high' → HasSet top (i / 64 / 64 / 64) top' → IsLayered n low' middle' high' top'
  layered-set i low' middle' high' top' within k l m h t = record {
    room = omega (arith, k.room, l.count);
    none_past = λ j past. l.others j (omega arith) ∙ k.none_past j past;
    of_low = sums-set middle low low' middle' i k.of_low l m;
    of_middle = sums-set high middle middle' high' (i / 64) k.of_middle m h;
    of_high = sums-set top high high' top' (i / 64 / 64) k.of_high h t;
    one = t.count ∙ k.one;
  }

  none_past-cleared : (i : ℕ) → (low' : List ℕ) → i < n → IsLayered n low middle high top → HasCleared low i low' → (j : ℕ) → n ≤ j → bit_in low' j ≡ 0
  none_past-cleared i low' within k l j past = l.others j (omega arith) ∙ k.none_past j past

  pub bit_within : (i : ℕ) → IsLayered n low middle high top → bit_in low i ≡ 1 → i < n
  bit_within i k e = ⊎_elim (λ l. l) (λ ge. absurd (omega (arith, k.none_past i ge, e))) (cases_lt i n)

  pub layered-cleared-1 : (i : ℕ) → (low' : List ℕ) → IsLayered n low middle high top → bit_in low i ≡ 1 → HasCleared low i low' → (get_or low' (i / 64) 0 ≡ 0 → ⊥) → IsLayered n low' middle high top
  layered-cleared-1 i low' k was l some = record {
    room = omega (arith, k.room, l.count);
    none_past = none_past-cleared i low' (bit_within i k was) k l;
    of_low = sums-cleared middle low low' i k.of_low was l some;
    of_middle = k.of_middle;
    of_high = k.of_high;
    one = k.one;
  }

  pub layered-cleared-2 : (i : ℕ) → (low' middle' : List ℕ) → IsLayered n low middle high top → bit_in low i ≡ 1 → HasCleared low i low' → get_or low' (i / 64) 0 ≡ 0 → HasCleared middle (i / 64) middle' → (get_or middle' (i / 64 / 64) 0 ≡ 0 → ⊥) → IsLayered n low' middle' high top
  layered-cleared-2 i low' middle' k was l z1 m some = record {
    room = omega (arith, k.room, l.count);
    none_past = none_past-cleared i low' (bit_within i k was) k l;
    of_low = sums-emptied middle low low' middle' i k.of_low l z1 m;
    of_middle = sums-cleared high middle middle' (i / 64) k.of_middle (bit_above middle low i k.of_low was) m some;
    of_high = k.of_high;
    one = k.one;
  }

  pub layered-cleared-3 : (i : ℕ) → (low' middle' high' : List ℕ) → IsLayered n low middle high top → bit_in low i ≡ 1 → HasCleared low i low' → get_or low' (i / 64) 0 ≡ 0 → HasCleared middle (i / 64) middle' → get_or middle' (i / 64 / 64) 0 ≡ 0 → HasCleared high (i / 64 / 64) high' → (get_or high' (i / 64 / 64 / 64) 0 ≡ 0 → ⊥) → IsLayered n low' middle' high' top
  layered-cleared-3 i low' middle' high' k was l z1 m z2 h some = record {
    room = omega (arith, k.room, l.count);
    none_past = none_past-cleared i low' (bit_within i k was) k l;
    of_low = sums-emptied middle low low' middle' i k.of_low l z1 m;
    of_middle = sums-emptied high middle middle' high' (i / 64) k.of_middle m z2 h;
    of_high = sums-cleared top high high' (i / 64 / 64) k.of_high (bit_above high middle (i / 64) k.of_middle (bit_above middle low i k.of_low was)) h some;
    one = k.one;
  }

  pub layered-cleared-4 : (i : ℕ) → (low' middle' high' top' : List ℕ) → IsLayered n low middle high top → bit_in low i ≡ 1 → HasCleared low i low' → get_or low' (i / 64) 0 ≡ 0 → HasCleared middle (i / 64) middle' → get_or middle' (i / 64 / 64) 0 ≡ 0 → HasCleared high (i / 64 / 64) high' → get_or high' (i / 64 / 64 / 64) 0 ≡ 0 → HasCleared top (i / 64 / 64 / 64) top' → IsLayered n low' middle' high' top'
  layered-cleared-4 i low' middle' high' top' k was l z1 m z2 h z3 t = record {
    room = omega (arith, k.room, l.count);
    none_past = none_past-cleared i low' (bit_within i k was) k l;
    of_low = sums-emptied middle low low' middle' i k.of_low l z1 m;
    of_middle = sums-emptied high middle middle' high' (i / 64) k.of_middle m z2 h;
    of_high = sums-emptied top high high' top' (i / 64 / 64) k.of_high h z3 t;
    one = t.count ∙ k.one;
  }

  -- where the words of the layers lie
  pub word_in_low : (i : ℕ) → i < n → IsLayered n low middle high top → i / 64 < length low
  word_in_low i within k = omega (arith, k.room)

  pub words_above : (w : ℕ) → w < length low → IsLayered n low middle high top → (w / 64 < length middle) × (w / 64 / 64 < length high) × (w / 64 / 64 / 64 < length top)
  words_above w within k = (omega (arith, k.of_low.room), omega (arith, k.of_low.room, k.of_middle.room), omega (arith, k.of_low.room, k.of_middle.room, k.of_high.room))

-- ---- flags

pub length-flags : (ws : List ℕ) (n : ℕ) → length (flags ws n) ≡ n
length-flags ws n = length-map-range_with_len (λ i. eqb (bit_in ws i) 1) 0 n

pub get-flags : (ws : List ℕ) (n i : ℕ) (d : Bool) → i < n → get_or (flags ws n) i d ≡ eqb (bit_in ws i) 1
get-flags ws n i d l = get_or-map-range_with_len (λ j. eqb (bit_in ws j) 1) 0 n i i d l (omega arith)

pub flag-true : (ws : List ℕ) (n i : ℕ) → get_or (flags ws n) i false ≡ true → (i < n) × (bit_in ws i ≡ 1)
flag-true ws n i e = ⊎_elim
    (λ (l : i < n). (l, eqb-true (bit_in ws i) 1 (sym (get-flags ws n i false l) ∙ e)))
    (λ (ge : n ≤ i). absurd (false≢true (sym (get_or_past (flags ws n) i false (omega (arith, length-flags ws n))) ∙ e)))
    (cases_lt i n)

pub true-flag : (ws : List ℕ) (n i : ℕ) → i < n → bit_in ws i ≡ 1 → get_or (flags ws n) i false ≡ true
true-flag ws n i l e = get-flags ws n i false l ∙ eq-eqb (bit_in ws i) 1 e

pub flag-false : (ws : List ℕ) (n i : ℕ) → bit_in ws i ≡ 0 → get_or (flags ws n) i false ≡ false
flag-false ws n i z = false_from_ne_true _ (λ t. omega (arith, (flag-true ws n i t).1, z))

pub flags-set : (ws ws' : List ℕ) (n i : ℕ) → i < n → HasSet ws i ws' → flags ws' n ≡ set (flags ws n) i true
flags-set ws ws' n i within h =
    same_lists (flags ws' n) (set (flags ws n) i true)
    (length-flags ws' n ∙ sym (length-set (flags ws n) i true ∙ length-flags ws n))
    (λ k d l. let lt : k < n = omega (arith, length-flags ws' n) in
    get-flags ws' n k d lt ∙ ⊎_elim
    (λ (same : k ≡ i). ap (λ j. eqb (bit_in ws' j) 1) same ∙ eq-eqb (bit_in ws' i) 1 h.bit
    ∙ sym (ap (λ j. get_or (set (flags ws n) i true) j d) same ∙ get_or-set_same (flags ws n) i true d (omega (arith, length-flags ws n))))
    (λ other. ap (λ v. eqb v 1) (h.others k other)
    ∙ sym (get_or-set_other (flags ws n) i k true d other ∙ get-flags ws n k d lt))
    (cases_eq k i))

pub flags-cleared : (ws ws' : List ℕ) (n i : ℕ) → i < n → HasCleared ws i ws' → flags ws' n ≡ set (flags ws n) i false
flags-cleared ws ws' n i within h =
    same_lists (flags ws' n) (set (flags ws n) i false)
    (length-flags ws' n ∙ sym (length-set (flags ws n) i false ∙ length-flags ws n))
    (λ k d l. let lt : k < n = omega (arith, length-flags ws' n) in
    get-flags ws' n k d lt ∙ ⊎_elim
    (λ (same : k ≡ i). ap (λ j. eqb (bit_in ws' j) 1) same ∙ ne_eqb (bit_in ws' i) 1 (λ one. omega (arith, one, h.bit))
    ∙ sym (ap (λ j. get_or (set (flags ws n) i false) j d) same ∙ get_or-set_same (flags ws n) i false d (omega (arith, length-flags ws n))))
    (λ other. ap (λ v. eqb v 1) (h.others k other)
    ∙ sym (get_or-set_other (flags ws n) i k false d other ∙ get-flags ws n k d lt))
    (cases_eq k i))

abbrev none : ℕ → List ℕ
none count = replicate count 0

length-none : (count : ℕ) → length (none count) ≡ count
length-none count = length-replicate count (let z : ℕ = 0 in z)

zeros : (count w : ℕ) → get_or (none count) w 0 ≡ 0
zeros count w = ⊎_elim
    (λ l. get_or-replicate {A = ℕ} count w 0 0 l)
    (λ ge. get_or_past (none count) w 0 (omega (arith, length-none count)))
    (cases_lt w count)

pub bits-zeros : (count i : ℕ) → bit_in (none count) i ≡ 0
bits-zeros count i = bit_of_zero (none count) i (zeros count (i / 64))

pub sums-zeros : (high below : ℕ) → below ≤ 64 * high → SumsUp (none high) (none below)
sums-zeros high below room = record {
  room = omega (arith, length-none high, length-none below);
  set = λ w e. absurd (omega (arith, bits-zeros high w, e));
  clear = λ w e. zeros below w;
}

pub layered-zeros : (n below middle high : ℕ) → n ≤ 64 * below → below ≤ 64 * middle → middle ≤ 64 * high → high ≤ 64 → IsLayered n (none below) (none middle) (none high) (none 1)
layered-zeros n below middle high a b c d = record {
  room = omega (arith, length-none below);
  none_past = λ i _. bits-zeros below i;
  of_low = sums-zeros middle below b;
  of_middle = sums-zeros high middle c;
  of_high = sums-zeros 1 high d;
  one = refl;
}

pub flags-zeros : (count n : ℕ) → flags (none count) n ≡ replicate n false
flags-zeros count n =
    same_lists (flags (none count) n) (replicate n false)
    (length-flags (none count) n ∙ sym (length-replicate n false))
    (λ k d l. let lt : k < n = omega (arith, length-flags (none count) n) in
    get-flags (none count) n k d lt
    ∙ ne_eqb (bit_in (none count) k) 1 (λ one. omega (arith, one, bits-zeros count k))
    ∙ sym (get_or-replicate n k false d lt))

pub within-flags : (ws : List ℕ) (n i : ℕ) → i < length (flags ws n) → i < n
within-flags ws n i l = omega (arith, length-flags ws n)

pub flag-is : (ws : List ℕ) (n i : ℕ) (b : Bool) → i < n → IsTrue b ↔ (bit_in ws i ≡ 1) → b ≡ get_or (flags ws n) i false
flag-is ws n i b l h = sym (get-flags ws n i false l ∙ is_bool b h)
  where
    is_bool : (r : Bool) → IsTrue r ↔ (bit_in ws i ≡ 1) → eqb (bit_in ws i) 1 ≡ r
    is_bool true g = eq-eqb _ _ (g.0 refl)
    is_bool false g = ne_eqb _ _ (λ o. false≢true (g.1 o))
