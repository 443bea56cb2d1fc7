-- Words of bits: one bit set or cleared, the least bit of a word, and words that sum up others.
use Rattle.std.proofs.Common.{◌≡◌, ◌↔◌, ℕ, ◌+◌, ◌-◌, ◌*◌, ◌/◌, ◌%◌, ◌^◌, max, ◌<◌, ◌≤◌, ◌⊎◌, Bool, true, false, eqb, List, [], ◌∷◌, ◌++◌, length, length-append, get_or, set, replicate, refl, sym, ap, ◌∙◌, subst, inl, inr, ⊎_elim, arith, get_or-set_same, get_or-set_other, length-set}
use Rattle.std.specs.Prelude.{bit_and, bit_or, IsTrue, not}
use Rattle.std.specs.Int.{bit_at, bit_not, w64, trailing_zeros}
use Rattle.std.proofs.lemmas.Bool.{cases_eq, cases_lt, eqb-true, eq-eqb, ne_eqb, false_from_ne_true, false≢true}
use Rattle.std.proofs.Math.ListN.{get_or-append}
use Rattle.std.proofs.Math.Seq.{get_or-append_seam, get_or-append_right}
use Rattle.std.proofs.lemmas.List.{get_or_past, same_lists, length-replicate, get_or-replicate}
use Rattle.std.proofs.lemmas.List.FromFn.{get_or-map-range_with_len, length-map-range_with_len}
use Rattle.std.proofs.lemmas.Nat.Bits.{bit_at_set_same, bit_at_set_other, bit_at_clear_same, bit_at_clear_other, bit_at-zero, bit_at-lt, bit_at-trailing_zeros, and_pow}
use Rattle.std.proofs.lemmas.Nat.{one_shl, pow_pos}
use Rattle.number_set.specs.Bits.{bit_in, flags, HasSet, HasCleared, HasWords, SumsUp, IsLeastBit, IsLayered}

-- ---- one word

rest_below : (i : ℕ) → i % 64 < 64
rest_below i = omega arith

pub set_bit : (ws : List ℕ) (i x : ℕ) → i / 64 < length ws → x ≡ get_or ws (i / 64) 0 → HasSet ws i (set ws (i / 64) (bit_or x (1 * 2 ^ (i % 64) % 2 ^ 64)))
set_bit ws i x within e = record {
  count = length-set ws (i / 64) _;
  bit = ap (λ v. bit_at v (i % 64)) (get_or-set_same ws (i / 64) _ 0 within) ∙ bit_at_set_same w64 x (i % 64) (rest_below i);
  others = λ j ne. ⊎_elim
      (λ same. ap (λ w. bit_at (get_or (set ws (i / 64) (bit_or x (1 * 2 ^ (i % 64) % 2 ^ 64))) w 0) (j % 64)) same
      ∙ ap (λ v. bit_at v (j % 64)) (get_or-set_same ws (i / 64) _ 0 within)
      ∙ bit_at_set_other w64 x (i % 64) (rest_below i) (j % 64) (omega arith)
      ∙ ap (λ v. bit_at v (j % 64)) (e ∙ ap (λ w. get_or ws w 0) (sym same)))
      (λ other. ap (λ v. bit_at v (j % 64)) (get_or-set_other ws (i / 64) (j / 64) _ 0 other))
      (cases_eq (j / 64) (i / 64));
  other_words = λ w ne. get_or-set_other ws (i / 64) w _ 0 ne;
}

pub clear_bit : (ws : List ℕ) (i x : ℕ) → i / 64 < length ws → x ≡ get_or ws (i / 64) 0 → HasCleared ws i (set ws (i / 64) (bit_and x (bit_not w64 (1 * 2 ^ (i % 64) % 2 ^ 64))))
clear_bit ws i x within e = record {
  count = length-set ws (i / 64) _;
  bit = ap (λ v. bit_at v (i % 64)) (get_or-set_same ws (i / 64) _ 0 within) ∙ bit_at_clear_same w64 x (i % 64) (rest_below i);
  others = λ j ne. ⊎_elim
      (λ same. ap (λ w. bit_at (get_or (set ws (i / 64) (bit_and x (bit_not w64 (1 * 2 ^ (i % 64) % 2 ^ 64)))) w 0) (j % 64)) same
      ∙ ap (λ v. bit_at v (j % 64)) (get_or-set_same ws (i / 64) _ 0 within)
      ∙ bit_at_clear_other w64 x (i % 64) (rest_below i) (j % 64) (rest_below j) (omega arith)
      ∙ ap (λ v. bit_at v (j % 64)) (e ∙ ap (λ w. get_or ws w 0) (sym same)))
      (λ other. ap (λ v. bit_at v (j % 64)) (get_or-set_other ws (i / 64) (j / 64) _ 0 other))
      (cases_eq (j / 64) (i / 64));
  other_words = λ w ne. get_or-set_other ws (i / 64) w _ 0 ne;
}

pub bit_is : (ws : List ℕ) (i : ℕ) → (bit_in ws i ≡ 0) ⊎ (bit_in ws i ≡ 1)
bit_is ws i = ⊎_elim (λ z. inl z) (λ ne. inr (omega (arith, bit_at-lt (get_or ws (i / 64) 0) (i % 64)))) (cases_eq (bit_in ws i) 0)

pub test_bit : (ws : List ℕ) (i x : ℕ) → x ≡ get_or ws (i / 64) 0 → IsTrue (not (eqb (bit_and x (1 * 2 ^ (i % 64) % 2 ^ 64)) 0)) ↔ (bit_in ws i ≡ 1)
test_bit ws i x e =
    let at : bit_at x (i % 64) ≡ bit_in ws i = ap (λ v. bit_at v (i % 64)) e in
    let one : 1 * 2 ^ (i % 64) % 2 ^ 64 ≡ 2 ^ (i % 64) = one_shl (i % 64) 64 (rest_below i) in
    let masked : bit_and x (1 * 2 ^ (i % 64) % 2 ^ 64) ≡ bit_at x (i % 64) * 2 ^ (i % 64) = ap (λ m. bit_and x m) one ∙ and_pow x (i % 64) in
    ⊎_elim
    (λ (z : bit_in ws i ≡ 0). let none : bit_and x (1 * 2 ^ (i % 64) % 2 ^ 64) ≡ 0 = masked ∙ ap (λ b. b * 2 ^ (i % 64)) (at ∙ z) ∙ omega arith in (
      (λ t. absurd (false≢true (subst (λ (b : Bool). not b ≡ true) (eq-eqb (bit_and x (1 * 2 ^ (i % 64) % 2 ^ 64)) 0 none) t))),
      (λ o. absurd (omega (arith, z, o))),
    ))
    (λ (o : bit_in ws i ≡ 1). let some : bit_and x (1 * 2 ^ (i % 64) % 2 ^ 64) ≡ 2 ^ (i % 64) = masked ∙ ap (λ b. b * 2 ^ (i % 64)) (at ∙ o) ∙ omega arith in (
      (λ _. o),
      (λ _. ap not (ne_eqb (bit_and x (1 * 2 ^ (i % 64) % 2 ^ 64)) 0 (λ z. omega (arith, pow_pos (i % 64), some, z)))),
    ))
    (bit_is ws i)

pub least_set : (ws : List ℕ) (w x : ℕ) → x ≡ get_or ws w 0 → 0 < x → x < 2 ^ 64 → bit_in ws (64 * w + trailing_zeros w64 x) ≡ 1
least_set ws w x e some small =
    let tz : (trailing_zeros w64 x < 64) × (bit_at x (trailing_zeros w64 x) ≡ 1) × ((i : ℕ) → i < trailing_zeros w64 x → bit_at x i ≡ 0) = bit_at-trailing_zeros w64 x some small in
    let lt : trailing_zeros w64 x < 64 = tz.0 in
    let quotient : (64 * w + trailing_zeros w64 x) / 64 ≡ w = omega arith in
    let rest : (64 * w + trailing_zeros w64 x) % 64 ≡ trailing_zeros w64 x = omega arith in
    ap (λ k. bit_at (get_or ws k 0) ((64 * w + trailing_zeros w64 x) % 64)) quotient
    ∙ ap (λ k. bit_at (get_or ws w 0) k) rest
    ∙ ap (λ v. bit_at v (trailing_zeros w64 x)) (sym e)
    ∙ tz.1

pub least_below : (ws : List ℕ) (w x : ℕ) → x ≡ get_or ws w 0 → 0 < x → x < 2 ^ 64 → (j : ℕ) → j / 64 ≡ w → j < 64 * w + trailing_zeros w64 x → bit_in ws j ≡ 0
least_below ws w x e some small j at less =
    let tz : (trailing_zeros w64 x < 64) × (bit_at x (trailing_zeros w64 x) ≡ 1) × ((i : ℕ) → i < trailing_zeros w64 x → bit_at x i ≡ 0) = bit_at-trailing_zeros w64 x some small in
    let lt : j % 64 < trailing_zeros w64 x = omega arith in
    ap (λ k. bit_at (get_or ws k 0) (j % 64)) at ∙ ap (λ v. bit_at v (j % 64)) (sym e) ∙ tz.2 (j % 64) lt

pub least_place : (w x : ℕ) → 0 < x → x < 2 ^ 64 → trailing_zeros w64 x < 64
least_place w x some small = (bit_at-trailing_zeros w64 x some small).0

-- ---- a bit and its word

pub word_of_bit : (ws : List ℕ) (i : ℕ) → bit_in ws i ≡ 1 → 0 < get_or ws (i / 64) 0
word_of_bit ws i e = ⊎_elim
    (λ z. absurd (omega (arith, sym e ∙ ap (λ v. bit_at v (i % 64)) z ∙ bit_at-zero (i % 64))))
    (λ ne. omega arith)
    (cases_eq (get_or ws (i / 64) 0) 0)

pub bit_of_zero : (ws : List ℕ) (i : ℕ) → get_or ws (i / 64) 0 ≡ 0 → bit_in ws i ≡ 0
bit_of_zero ws i z = ap (λ v. bit_at v (i % 64)) z ∙ bit_at-zero (i % 64)

pub place_of_word : (ws : List ℕ) (w : ℕ) → 0 < get_or ws w 0 → w < length ws
place_of_word ws w some = ⊎_elim (λ l. l) (λ ge. absurd (omega (arith, get_or_past ws w 0 ge))) (cases_lt w (length ws))

pub place_of_bit : (ws : List ℕ) (i : ℕ) → bit_in ws i ≡ 1 → i / 64 < length ws
place_of_bit ws i e = place_of_word ws (i / 64) (word_of_bit ws i e)

-- ---- sums

pub bit_above : (high low : List ℕ) (i : ℕ) → SumsUp high low → bit_in low i ≡ 1 → bit_in high (i / 64) ≡ 1
bit_above high low i s e = ⊎_elim
    (λ z. absurd (omega (arith, word_of_bit low i e, s.clear (i / 64) z)))
    (λ o. o)
    (bit_is high (i / 64))

pub sums-set : (high low low' high' : List ℕ) (i : ℕ) → SumsUp high low → HasSet low i low' → HasSet high (i / 64) high' → SumsUp high' low'
sums-set high low low' high' i s l h = record {
  room = omega (arith, s.room, l.count, h.count);
  set = λ w e. ⊎_elim
      (λ (same : w ≡ i / 64). subst (λ (k : ℕ). 0 < get_or low' k 0) (sym same) (word_of_bit low' i l.bit))
      (λ other. let one : bit_in high w ≡ 1 = sym (h.others w other) ∙ e in omega (arith, l.other_words w other, s.set w one))
      (cases_eq w (i / 64));
  clear = λ w e. ⊎_elim
      (λ same. absurd (omega (arith, sym (ap (bit_in high') same) ∙ e, h.bit)))
      (λ other. l.other_words w other ∙ s.clear w (sym (h.others w other) ∙ e))
      (cases_eq w (i / 64));
}

pub sums-cleared : (high low low' : List ℕ) (i : ℕ) → SumsUp high low → bit_in low i ≡ 1 → HasCleared low i low' → (get_or low' (i / 64) 0 ≡ 0 → ⊥) → SumsUp high low'
sums-cleared high low low' i s was l some = record {
  room = omega (arith, s.room, l.count);
  set = λ w e. ⊎_elim
      (λ (same : w ≡ i / 64). subst (λ (k : ℕ). 0 < get_or low' k 0) (sym same) (omega (arith, some)))
      (λ other. omega (arith, l.other_words w other, s.set w e))
      (cases_eq w (i / 64));
  clear = λ w e. ⊎_elim
      (λ same. absurd (omega (arith, sym (ap (bit_in high) same) ∙ e, bit_above high low i s was)))
      (λ other. l.other_words w other ∙ s.clear w e)
      (cases_eq w (i / 64));
}

pub sums-emptied : (high low low' high' : List ℕ) (i : ℕ) → SumsUp high low → HasCleared low i low' → get_or low' (i / 64) 0 ≡ 0 → HasCleared high (i / 64) high' → SumsUp high' low'
sums-emptied high low low' high' i s l none h = record {
  room = omega (arith, s.room, l.count, h.count);
  set = λ w e. ⊎_elim
      (λ same. absurd (omega (arith, sym (ap (bit_in high') same) ∙ e, h.bit)))
      (λ other. let one : bit_in high w ≡ 1 = sym (h.others w other) ∙ e in omega (arith, l.other_words w other, s.set w one))
      (cases_eq w (i / 64));
  clear = λ w e. ⊎_elim
      (λ same. ap (λ k. get_or low' k 0) same ∙ none)
      (λ other. l.other_words w other ∙ s.clear w (sym (h.others w other) ∙ e))
      (cases_eq w (i / 64));
}

pub least_down : (high low : List ℕ) (w r : ℕ) → SumsUp high low → IsLeastBit high w → r / 64 ≡ w → bit_in low r ≡ 1 → ((j : ℕ) → j / 64 ≡ w → j < r → bit_in low j ≡ 0) → IsLeastBit low r
least_down high low w r s l at one below = record {
  set = one;
  clear_below = λ j less. ⊎_elim
      (λ same. below j same less)
      (λ other. let before : j / 64 < w = omega arith in bit_of_zero low j (s.clear (j / 64) (l.clear_below (j / 64) before)))
      (cases_eq (j / 64) w);
}

pub none_down : (high low : List ℕ) → SumsUp high low → ((w : ℕ) → bit_in high w ≡ 0) → (i : ℕ) → bit_in low i ≡ 0
none_down high low s none i = bit_of_zero low i (s.clear (i / 64) (none (i / 64)))

pub none_in_top : (top : List ℕ) → length top ≡ 1 → get_or top 0 0 ≡ 0 → (w : ℕ) → bit_in top w ≡ 0
none_in_top top one z w = bit_of_zero top w (⊎_elim
    (λ (s : w / 64 ≡ 0). ap (λ k. get_or top k 0) s ∙ z)
    (λ ne. get_or_past top (w / 64) 0 (omega arith))
    (cases_eq (w / 64) 0))

pub least_of_top : (top : List ℕ) (r : ℕ) → bit_in top r ≡ 1 → ((j : ℕ) → j / 64 ≡ 0 → j < r → bit_in top j ≡ 0) → r / 64 ≡ 0 → IsLeastBit top r
least_of_top top r one below at = record { set = one; clear_below = λ j less. below j (omega arith) less }

below_quotient : (w x y : ℕ) → w < x → x ≤ 64 * y → w / 64 < y
below_quotient w x y less room = omega arith

-- ---- six layers

module _ (n : ℕ) (first second third fourth fifth sixth : List ℕ) where
  pub layered-set : (i : ℕ) → (first' second' third' fourth' fifth' sixth' : List ℕ) → i < n → IsLayered n first second third fourth fifth sixth
      → HasSet first i first' → HasSet second (i / 64) second' → HasSet third (i / 64 / 64) third' → HasSet fourth (i / 64 / 64 / 64) fourth' → HasSet fifth (i / 64 / 64 / 64 / 64) fifth' → HasSet sixth (i / 64 / 64 / 64 / 64 / 64) sixth'
      → IsLayered n first' second' third' fourth' fifth' sixth'
  layered-set i first' second' third' fourth' fifth' sixth' within k a b c d e f = record {
    few = k.few;
    room = omega (arith, k.room, a.count);
    none_past = λ j past. a.others j (omega arith) ∙ k.none_past j past;
    of_first = sums-set second first first' second' i k.of_first a b;
    of_second = sums-set third second second' third' (i / 64) k.of_second b c;
    of_third = sums-set fourth third third' fourth' (i / 64 / 64) k.of_third c d;
    of_fourth = sums-set fifth fourth fourth' fifth' (i / 64 / 64 / 64) k.of_fourth d e;
    of_fifth = sums-set sixth fifth fifth' sixth' (i / 64 / 64 / 64 / 64) k.of_fifth e f;
    one = f.count ∙ k.one;
  }

  none_past-cleared : (i : ℕ) → (first' : List ℕ) → i < n → IsLayered n first second third fourth fifth sixth → HasCleared first i first' → (j : ℕ) → n ≤ j → bit_in first' j ≡ 0
  none_past-cleared i first' within k l j past = l.others j (omega arith) ∙ k.none_past j past

  pub bit_within : (i : ℕ) → IsLayered n first second third fourth fifth sixth → bit_in first i ≡ 1 → i < n
  bit_within i k e = ⊎_elim (λ l. l) (λ ge. absurd (omega (arith, k.none_past i ge, e))) (cases_lt i n)

  pub layered-cleared-1 : (i : ℕ) → (first' : List ℕ) → IsLayered n first second third fourth fifth sixth → bit_in first i ≡ 1
      → HasCleared first i first' → (get_or first' (i / 64) 0 ≡ 0 → ⊥) → IsLayered n first' second third fourth fifth sixth
  layered-cleared-1 i first' k was a some = record {
    few = k.few;
    room = omega (arith, k.room, a.count);
    none_past = none_past-cleared i first' (bit_within i k was) k a;
    of_first = sums-cleared second first first' i k.of_first was a some;
    of_second = k.of_second;
    of_third = k.of_third;
    of_fourth = k.of_fourth;
    of_fifth = k.of_fifth;
    one = k.one;
  }

  pub layered-cleared-2 : (i : ℕ) → (first' second' : List ℕ) → IsLayered n first second third fourth fifth sixth → bit_in first i ≡ 1
      → HasCleared first i first' → get_or first' (i / 64) 0 ≡ 0 → HasCleared second (i / 64) second' → (get_or second' (i / 64 / 64) 0 ≡ 0 → ⊥) → IsLayered n first' second' third fourth fifth sixth
  layered-cleared-2 i first' second' k was a z1 b some = record {
    few = k.few;
    room = omega (arith, k.room, a.count);
    none_past = none_past-cleared i first' (bit_within i k was) k a;
    of_first = sums-emptied second first first' second' i k.of_first a z1 b;
    of_second = sums-cleared third second second' (i / 64) k.of_second (bit_above second first i k.of_first was) b some;
    of_third = k.of_third;
    of_fourth = k.of_fourth;
    of_fifth = k.of_fifth;
    one = k.one;
  }

  pub layered-cleared-3 : (i : ℕ) → (first' second' third' : List ℕ) → IsLayered n first second third fourth fifth sixth → bit_in first i ≡ 1
      → HasCleared first i first' → get_or first' (i / 64) 0 ≡ 0 → HasCleared second (i / 64) second' → get_or second' (i / 64 / 64) 0 ≡ 0 → HasCleared third (i / 64 / 64) third' → (get_or third' (i / 64 / 64 / 64) 0 ≡ 0 → ⊥) → IsLayered n first' second' third' fourth fifth sixth
  layered-cleared-3 i first' second' third' k was a z1 b z2 c some = record {
    few = k.few;
    room = omega (arith, k.room, a.count);
    none_past = none_past-cleared i first' (bit_within i k was) k a;
    of_first = sums-emptied second first first' second' i k.of_first a z1 b;
    of_second = sums-emptied third second second' third' (i / 64) k.of_second b z2 c;
    of_third = sums-cleared fourth third third' (i / 64 / 64) k.of_third (bit_above third second (i / 64) k.of_second (bit_above second first i k.of_first was)) c some;
    of_fourth = k.of_fourth;
    of_fifth = k.of_fifth;
    one = k.one;
  }

  pub layered-cleared-4 : (i : ℕ) → (first' second' third' fourth' : List ℕ) → IsLayered n first second third fourth fifth sixth → bit_in first i ≡ 1
      → HasCleared first i first' → get_or first' (i / 64) 0 ≡ 0 → HasCleared second (i / 64) second' → get_or second' (i / 64 / 64) 0 ≡ 0 → HasCleared third (i / 64 / 64) third' → get_or third' (i / 64 / 64 / 64) 0 ≡ 0 → HasCleared fourth (i / 64 / 64 / 64) fourth' → (get_or fourth' (i / 64 / 64 / 64 / 64) 0 ≡ 0 → ⊥) → IsLayered n first' second' third' fourth' fifth sixth
  layered-cleared-4 i first' second' third' fourth' k was a z1 b z2 c z3 d some = record {
    few = k.few;
    room = omega (arith, k.room, a.count);
    none_past = none_past-cleared i first' (bit_within i k was) k a;
    of_first = sums-emptied second first first' second' i k.of_first a z1 b;
    of_second = sums-emptied third second second' third' (i / 64) k.of_second b z2 c;
    of_third = sums-emptied fourth third third' fourth' (i / 64 / 64) k.of_third c z3 d;
    of_fourth = sums-cleared fifth fourth fourth' (i / 64 / 64 / 64) k.of_fourth (bit_above fourth third (i / 64 / 64) k.of_third (bit_above third second (i / 64) k.of_second (bit_above second first i k.of_first was))) d some;
    of_fifth = k.of_fifth;
    one = k.one;
  }

  pub layered-cleared-5 : (i : ℕ) → (first' second' third' fourth' fifth' : List ℕ) → IsLayered n first second third fourth fifth sixth → bit_in first i ≡ 1
      → HasCleared first i first' → get_or first' (i / 64) 0 ≡ 0 → HasCleared second (i / 64) second' → get_or second' (i / 64 / 64) 0 ≡ 0 → HasCleared third (i / 64 / 64) third' → get_or third' (i / 64 / 64 / 64) 0 ≡ 0 → HasCleared fourth (i / 64 / 64 / 64) fourth' → get_or fourth' (i / 64 / 64 / 64 / 64) 0 ≡ 0 → HasCleared fifth (i / 64 / 64 / 64 / 64) fifth' → (get_or fifth' (i / 64 / 64 / 64 / 64 / 64) 0 ≡ 0 → ⊥) → IsLayered n first' second' third' fourth' fifth' sixth
  layered-cleared-5 i first' second' third' fourth' fifth' k was a z1 b z2 c z3 d z4 e some = record {
    few = k.few;
    room = omega (arith, k.room, a.count);
    none_past = none_past-cleared i first' (bit_within i k was) k a;
    of_first = sums-emptied second first first' second' i k.of_first a z1 b;
    of_second = sums-emptied third second second' third' (i / 64) k.of_second b z2 c;
    of_third = sums-emptied fourth third third' fourth' (i / 64 / 64) k.of_third c z3 d;
    of_fourth = sums-emptied fifth fourth fourth' fifth' (i / 64 / 64 / 64) k.of_fourth d z4 e;
    of_fifth = sums-cleared sixth fifth fifth' (i / 64 / 64 / 64 / 64) k.of_fifth (bit_above fifth fourth (i / 64 / 64 / 64) k.of_fourth (bit_above fourth third (i / 64 / 64) k.of_third (bit_above third second (i / 64) k.of_second (bit_above second first i k.of_first was)))) e some;
    one = k.one;
  }

  pub layered-cleared-6 : (i : ℕ) → (first' second' third' fourth' fifth' sixth' : List ℕ) → IsLayered n first second third fourth fifth sixth → bit_in first i ≡ 1
      → HasCleared first i first' → get_or first' (i / 64) 0 ≡ 0 → HasCleared second (i / 64) second' → get_or second' (i / 64 / 64) 0 ≡ 0 → HasCleared third (i / 64 / 64) third' → get_or third' (i / 64 / 64 / 64) 0 ≡ 0 → HasCleared fourth (i / 64 / 64 / 64) fourth' → get_or fourth' (i / 64 / 64 / 64 / 64) 0 ≡ 0 → HasCleared fifth (i / 64 / 64 / 64 / 64) fifth' → get_or fifth' (i / 64 / 64 / 64 / 64 / 64) 0 ≡ 0 → HasCleared sixth (i / 64 / 64 / 64 / 64 / 64) sixth' → IsLayered n first' second' third' fourth' fifth' sixth'
  layered-cleared-6 i first' second' third' fourth' fifth' sixth' k was a z1 b z2 c z3 d z4 e z5 f = record {
    few = k.few;
    room = omega (arith, k.room, a.count);
    none_past = none_past-cleared i first' (bit_within i k was) k a;
    of_first = sums-emptied second first first' second' i k.of_first a z1 b;
    of_second = sums-emptied third second second' third' (i / 64) k.of_second b z2 c;
    of_third = sums-emptied fourth third third' fourth' (i / 64 / 64) k.of_third c z3 d;
    of_fourth = sums-emptied fifth fourth fourth' fifth' (i / 64 / 64 / 64) k.of_fourth d z4 e;
    of_fifth = sums-emptied sixth fifth fifth' sixth' (i / 64 / 64 / 64 / 64) k.of_fifth e z5 f;
    one = f.count ∙ k.one;
  }

  -- where the words of the layers lie
  pub word_in_first : (i : ℕ) → i < n → IsLayered n first second third fourth fifth sixth → i / 64 < length first
  word_in_first i within k = omega (arith, k.room)

  pub words_above : (w : ℕ) → w < length first → IsLayered n first second third fourth fifth sixth → (w / 64 < length second) × (w / 64 / 64 < length third) × (w / 64 / 64 / 64 < length fourth) × (w / 64 / 64 / 64 / 64 < length fifth) × (w / 64 / 64 / 64 / 64 / 64 < length sixth)
  words_above w within k =
      let a : w / 64 < length second = below_quotient w _ _ within k.of_first.room in
      let b : w / 64 / 64 < length third = below_quotient (w / 64) _ _ a k.of_second.room in
      let c : w / 64 / 64 / 64 < length fourth = below_quotient (w / 64 / 64) _ _ b k.of_third.room in
      let d : w / 64 / 64 / 64 / 64 < length fifth = below_quotient (w / 64 / 64 / 64) _ _ c k.of_fourth.room in
      let e : w / 64 / 64 / 64 / 64 / 64 < length sixth = below_quotient (w / 64 / 64 / 64 / 64) _ _ d k.of_fifth.room in
      (a, b, c, d, e)

-- ---- words that grow

pub same_words : (ws : List ℕ) → HasWords ws ws
same_words ws = record { words = λ w. refl; longer = omega arith }

-- a word of 0 behind the others
abbrev zero_word : List ℕ
zero_word = 0 ∷ []

past_zero : (k : ℕ) → get_or zero_word k 0 ≡ 0
past_zero k = ⊎_elim
    (λ (l : k < 1). let z : k ≡ 0 = omega arith in ap (λ (x : ℕ). get_or zero_word x 0) z)
    (λ (ge : 1 ≤ k). get_or_past zero_word k 0 ge)
    (cases_lt k 1)

pub one_word_more : (ws : List ℕ) → HasWords ws (ws ++ zero_word)
one_word_more ws = record {
  words = λ w. ⊎_elim
      (λ (l : w < length ws). get_or-append ws zero_word 0 w l)
      (λ (ge : length ws ≤ w). get_or-append_right ws zero_word w 0 ge ∙ past_zero (w - length ws) ∙ sym (get_or_past ws w 0 ge))
      (cases_lt w (length ws));
  longer = omega (arith, length-append ws zero_word);
}

pub same_bits : (ws ws' : List ℕ) (i : ℕ) → HasWords ws ws' → bit_in ws' i ≡ bit_in ws i
same_bits ws ws' i h = ap (λ (v : ℕ). bit_at v (i % 64)) (h.words (i / 64))

sums-grown : (high low high' low' : List ℕ) → SumsUp high low → HasWords high high' → HasWords low low' → length low' ≤ 64 * length high' → SumsUp high' low'
sums-grown high low high' low' s h l room = record {
  room = room;
  set = λ w e. subst (λ (v : ℕ). 0 < v) (sym (l.words w)) (s.set w (sym (same_bits high high' w h) ∙ e));
  clear = λ w e. l.words w ∙ s.clear w (sym (same_bits high high' w h) ∙ e);
}

-- the rooms of the layers
pub record HaveRoom (n : ℕ) (first second third fourth fifth : List ℕ) : Type 0 where
  pub few : n ≤ 2 ^ 32
  pub in_first : n ≤ 64 * length first
  pub in_second : length first ≤ 64 * length second
  pub in_third : length second ≤ 64 * length third
  pub in_fourth : length third ≤ 64 * length fourth
  pub in_fifth : length fourth ≤ 64 * length fifth
  pub in_sixth : length fifth ≤ 64

pub rooms : (n : ℕ) (first second third fourth fifth sixth : List ℕ) → IsLayered n first second third fourth fifth sixth
    → HaveRoom n first second third fourth fifth
rooms n first second third fourth fifth sixth k = record {
  few = k.few;
  in_first = k.room;
  in_second = k.of_first.room;
  in_third = k.of_second.room;
  in_fourth = k.of_third.room;
  in_fifth = k.of_fourth.room;
  in_sixth = omega (arith, k.of_fifth.room, k.one);
}

-- a layer for whose bit i room was made, below one that has room for the bit of its word
below_room : (i l l' h : ℕ) → l ≤ 64 * h → l' ≤ max l (i / 64 + 1) → i / 64 / 64 < h → l' ≤ 64 * h
below_room i l l' h room few less = omega arith

module _ (n : ℕ) (a b c d e : List ℕ) where
  pub rooms-fifth : (e' : List ℕ) → HaveRoom n a b c d e → HasWords e e' → length e' ≤ max (length e) (n / 64 / 64 / 64 / 64 / 64 + 1) → HaveRoom n a b c d e'
  rooms-fifth e' r more few = record {
    few = r.few;
    in_first = r.in_first;
    in_second = r.in_second;
    in_third = r.in_third;
    in_fourth = r.in_fourth;
    in_fifth = omega (arith, r.in_fifth, more.longer);
    in_sixth = let n4 : n / 64 / 64 / 64 / 64 / 64 ≤ 4 = omega (arith, r.few) in omega (arith, r.in_sixth, few, n4);
  }

  pub rooms-fourth : (d' : List ℕ) → HaveRoom n a b c d e → HasWords d d' → length d' ≤ max (length d) (n / 64 / 64 / 64 / 64 + 1)
      → n / 64 / 64 / 64 / 64 / 64 < length e → HaveRoom n a b c d' e
  rooms-fourth d' r more few above = record {
    few = r.few;
    in_first = r.in_first;
    in_second = r.in_second;
    in_third = r.in_third;
    in_fourth = omega (arith, r.in_fourth, more.longer);
    in_fifth = below_room (n / 64 / 64 / 64) (length d) (length d') (length e) r.in_fifth few above;
    in_sixth = r.in_sixth;
  }

  pub rooms-third : (c' : List ℕ) → HaveRoom n a b c d e → HasWords c c' → length c' ≤ max (length c) (n / 64 / 64 / 64 + 1)
      → n / 64 / 64 / 64 / 64 < length d → HaveRoom n a b c' d e
  rooms-third c' r more few above = record {
    few = r.few;
    in_first = r.in_first;
    in_second = r.in_second;
    in_third = omega (arith, r.in_third, more.longer);
    in_fourth = below_room (n / 64 / 64) (length c) (length c') (length d) r.in_fourth few above;
    in_fifth = r.in_fifth;
    in_sixth = r.in_sixth;
  }

  pub rooms-second : (b' : List ℕ) → HaveRoom n a b c d e → HasWords b b' → length b' ≤ max (length b) (n / 64 / 64 + 1)
      → n / 64 / 64 / 64 < length c → HaveRoom n a b' c d e
  rooms-second b' r more few above = record {
    few = r.few;
    in_first = r.in_first;
    in_second = omega (arith, r.in_second, more.longer);
    in_third = below_room (n / 64) (length b) (length b') (length c) r.in_third few above;
    in_fourth = r.in_fourth;
    in_fifth = r.in_fifth;
    in_sixth = r.in_sixth;
  }

  pub rooms-first : (a' : List ℕ) → HaveRoom n a b c d e → HasWords a a' → length a' ≤ max (length a) (n / 64 + 1)
      → n / 64 / 64 < length b → HaveRoom n a' b c d e
  rooms-first a' r more few above = record {
    few = r.few;
    in_first = omega (arith, r.in_first, more.longer);
    in_second = below_room n (length a) (length a') (length b) r.in_second few above;
    in_third = r.in_third;
    in_fourth = r.in_fourth;
    in_fifth = r.in_fifth;
    in_sixth = r.in_sixth;
  }

  pub rooms-more : HaveRoom n a b c d e → n < 2 ^ 32 → n / 64 < length a → HaveRoom (n + 1) a b c d e
  rooms-more r few there = record {
    few = omega (arith, few);
    in_first = omega (arith, there);
    in_second = r.in_second;
    in_third = r.in_third;
    in_fourth = r.in_fourth;
    in_fifth = r.in_fifth;
    in_sixth = r.in_sixth;
  }

pub layered-grown : (n n' : ℕ) (first second third fourth fifth sixth first' second' third' fourth' fifth' : List ℕ)
    → IsLayered n first second third fourth fifth sixth → n ≤ n'
    → HasWords first first' → HasWords second second' → HasWords third third' → HasWords fourth fourth' → HasWords fifth fifth'
    → HaveRoom n' first' second' third' fourth' fifth' → IsLayered n' first' second' third' fourth' fifth' sixth
layered-grown n n' first second third fourth fifth sixth first' second' third' fourth' fifth' k more a b c d e r = record {
  few = r.few;
  room = r.in_first;
  none_past = λ i past. same_bits first first' i a ∙ k.none_past i (omega arith);
  of_first = sums-grown second first second' first' k.of_first b a r.in_second;
  of_second = sums-grown third second third' second' k.of_second c b r.in_third;
  of_third = sums-grown fourth third fourth' third' k.of_third d c r.in_fourth;
  of_fourth = sums-grown fifth fourth fifth' fourth' k.of_fourth e d r.in_fifth;
  of_fifth = sums-grown sixth fifth sixth fifth' k.of_fifth (same_words sixth) e (omega (arith, r.in_sixth, k.one));
  one = k.one;
}

-- ---- flags

pub length-flags : (ws : List ℕ) (n : ℕ) → length (flags ws n) ≡ n
length-flags ws n = length-map-range_with_len (λ i. eqb (bit_in ws i) 1) 0 n

pub get-flags : (ws : List ℕ) (n i : ℕ) (d : Bool) → i < n → get_or (flags ws n) i d ≡ eqb (bit_in ws i) 1
get-flags ws n i d l = get_or-map-range_with_len (λ j. eqb (bit_in ws j) 1) 0 n i i d l (omega arith)

pub flag-true : (ws : List ℕ) (n i : ℕ) → get_or (flags ws n) i false ≡ true → (i < n) × (bit_in ws i ≡ 1)
flag-true ws n i e = ⊎_elim
    (λ (l : i < n). (l, eqb-true (bit_in ws i) 1 (sym (get-flags ws n i false l) ∙ e)))
    (λ (ge : n ≤ i). absurd (false≢true (sym (get_or_past (flags ws n) i false (omega (arith, length-flags ws n))) ∙ e)))
    (cases_lt i n)

pub true-flag : (ws : List ℕ) (n i : ℕ) → i < n → bit_in ws i ≡ 1 → get_or (flags ws n) i false ≡ true
true-flag ws n i l e = get-flags ws n i false l ∙ eq-eqb (bit_in ws i) 1 e

pub flag-false : (ws : List ℕ) (n i : ℕ) → bit_in ws i ≡ 0 → get_or (flags ws n) i false ≡ false
flag-false ws n i z = false_from_ne_true _ (λ t. omega (arith, (flag-true ws n i t).1, z))

pub flags-set : (ws ws' : List ℕ) (n i : ℕ) → i < n → HasSet ws i ws' → flags ws' n ≡ set (flags ws n) i true
flags-set ws ws' n i within h =
    same_lists (flags ws' n) (set (flags ws n) i true)
    (length-flags ws' n ∙ sym (length-set (flags ws n) i true ∙ length-flags ws n))
    (λ k d l. let lt : k < n = omega (arith, length-flags ws' n) in
    get-flags ws' n k d lt ∙ ⊎_elim
    (λ (same : k ≡ i). ap (λ j. eqb (bit_in ws' j) 1) same ∙ eq-eqb (bit_in ws' i) 1 h.bit
    ∙ sym (ap (λ j. get_or (set (flags ws n) i true) j d) same ∙ get_or-set_same (flags ws n) i true d (omega (arith, length-flags ws n))))
    (λ other. ap (λ v. eqb v 1) (h.others k other)
    ∙ sym (get_or-set_other (flags ws n) i k true d other ∙ get-flags ws n k d lt))
    (cases_eq k i))

pub flags-cleared : (ws ws' : List ℕ) (n i : ℕ) → i < n → HasCleared ws i ws' → flags ws' n ≡ set (flags ws n) i false
flags-cleared ws ws' n i within h =
    same_lists (flags ws' n) (set (flags ws n) i false)
    (length-flags ws' n ∙ sym (length-set (flags ws n) i false ∙ length-flags ws n))
    (λ k d l. let lt : k < n = omega (arith, length-flags ws' n) in
    get-flags ws' n k d lt ∙ ⊎_elim
    (λ (same : k ≡ i). ap (λ j. eqb (bit_in ws' j) 1) same ∙ ne_eqb (bit_in ws' i) 1 (λ one. omega (arith, one, h.bit))
    ∙ sym (ap (λ j. get_or (set (flags ws n) i false) j d) same ∙ get_or-set_same (flags ws n) i false d (omega (arith, length-flags ws n))))
    (λ other. ap (λ v. eqb v 1) (h.others k other)
    ∙ sym (get_or-set_other (flags ws n) i k false d other ∙ get-flags ws n k d lt))
    (cases_eq k i))

abbrev none : ℕ → List ℕ
none count = replicate count 0

length-none : (count : ℕ) → length (none count) ≡ count
length-none count = length-replicate count (let z : ℕ = 0 in z)

zeros : (count w : ℕ) → get_or (none count) w 0 ≡ 0
zeros count w = ⊎_elim
    (λ l. get_or-replicate {A = ℕ} count w 0 0 l)
    (λ ge. get_or_past (none count) w 0 (omega (arith, length-none count)))
    (cases_lt w count)

pub bits-zeros : (count i : ℕ) → bit_in (none count) i ≡ 0
bits-zeros count i = bit_of_zero (none count) i (zeros count (i / 64))

pub sums-zeros : (high below : ℕ) → below ≤ 64 * high → SumsUp (none high) (none below)
sums-zeros high below room = record {
  room = omega (arith, length-none high, length-none below);
  set = λ w e. absurd (omega (arith, bits-zeros high w, e));
  clear = λ w e. zeros below w;
}

pub layered-zeros : IsLayered 0 (none 0) (none 0) (none 0) (none 0) (none 0) (none 1)
layered-zeros = record {
  few = omega arith;
  room = omega arith;
  none_past = λ i _. bits-zeros 0 i;
  of_first = sums-zeros 0 0 (omega arith);
  of_second = sums-zeros 0 0 (omega arith);
  of_third = sums-zeros 0 0 (omega arith);
  of_fourth = sums-zeros 0 0 (omega arith);
  of_fifth = sums-zeros 1 0 (omega arith);
  one = refl;
}

pub flags-zeros : (count n : ℕ) → flags (none count) n ≡ replicate n false
flags-zeros count n =
    same_lists (flags (none count) n) (replicate n false)
    (length-flags (none count) n ∙ sym (length-replicate n false))
    (λ k d l. let lt : k < n = omega (arith, length-flags (none count) n) in
    get-flags (none count) n k d lt
    ∙ ne_eqb (bit_in (none count) k) 1 (λ one. omega (arith, one, bits-zeros count k))
    ∙ sym (get_or-replicate n k false d lt))

pub within-flags : (ws : List ℕ) (n i : ℕ) → i < length (flags ws n) → i < n
within-flags ws n i l = omega (arith, length-flags ws n)

pub flag-is : (ws : List ℕ) (n i : ℕ) (b : Bool) → i < n → IsTrue b ↔ (bit_in ws i ≡ 1) → b ≡ get_or (flags ws n) i false
flag-is ws n i b l h = sym (get-flags ws n i false l ∙ is_bool b h)
  where
    is_bool : (r : Bool) → IsTrue r ↔ (bit_in ws i ≡ 1) → eqb (bit_in ws i) 1 ≡ r
    is_bool true g = eq-eqb _ _ (g.0 refl)
    is_bool false g = ne_eqb _ _ (λ o. false≢true (g.1 o))

pub flags-same : (ws ws' : List ℕ) (n : ℕ) → HasWords ws ws' → flags ws' n ≡ flags ws n
flags-same ws ws' n h =
    same_lists (flags ws' n) (flags ws n) (length-flags ws' n ∙ sym (length-flags ws n))
    (λ k d l. let lt : k < n = omega (arith, length-flags ws' n) in
    get-flags ws' n k d lt ∙ ap (λ (v : ℕ). eqb v 1) (same_bits ws ws' k h) ∙ sym (get-flags ws n k d lt))

pub flags-grown : (ws ws' : List ℕ) (n : ℕ) → HasWords ws ws' → bit_in ws n ≡ 0 → flags ws' (n + 1) ≡ flags ws n ++ false ∷ []
flags-grown ws ws' n h zero =
    same_lists (flags ws' (n + 1)) (flags ws n ++ false ∷ [])
    (length-flags ws' (n + 1) ∙ omega (arith, length-append (flags ws n) (false ∷ []), length-flags ws n))
    (λ k d l. let lt : k < n + 1 = omega (arith, length-flags ws' (n + 1)) in
    get-flags ws' (n + 1) k d lt ∙ ap (λ (v : ℕ). eqb v 1) (same_bits ws ws' k h) ∙ ⊎_elim
    (λ (less : k < n). sym (get_or-append (flags ws n) (false ∷ []) d k (omega (arith, length-flags ws n, less)) ∙ get-flags ws n k d less))
    (λ (ge : n ≤ k). let same : k ≡ n = omega (arith, ge, lt) in
    ap (λ (j : ℕ). eqb (bit_in ws j) 1) same ∙ ne_eqb (bit_in ws n) 1 (λ one. omega (arith, one, zero))
    ∙ sym (ap (λ (j : ℕ). get_or (flags ws n ++ false ∷ []) j d) (same ∙ sym (length-flags ws n)) ∙ get_or-append_seam (flags ws n) false [] d))
    (cases_lt k n))

pub layered_none : IsLayered 0 (replicate 0 0) (replicate 0 0) (replicate 0 0) (replicate 0 0) (replicate 0 0) (replicate 1 0)
layered_none = layered-zeros

pub count_below : (ws : List ℕ) (n : ℕ) (bs : List Bool) → flags ws n ≡ bs → length bs < 2 ^ 32 → n < 2 ^ 32
count_below ws n bs e few = omega (arith, length-flags ws n, ap length e, few)
