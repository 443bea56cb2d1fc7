-- One bit of a list of words that is set, cleared or tested.
use Rattle.std.proofs.Common.{◌≡◌, ◌≢◌, ℕ, ◌*◌, ◌/◌, ◌%◌, ◌^◌, ◌<◌, ◌⊎◌, false, eqb, List, length, get_or, set, sym, ap, ◌∙◌, inl, inr, ⊎_elim, arith, get_or-set_same, get_or-set_other}
use Rattle.std.specs.Prelude.{bit_and, bit_or, not}
use Rattle.std.specs.Int.{bit_at, bit_not, w64}
use Rattle.std.proofs.lemmas.Bool.{cases_eq, eq-eqb, ne_eqb}
use Rattle.std.proofs.lemmas.Nat.Bits.{bit_at_set_same, bit_at_set_other, bit_at_clear_same, bit_at_clear_other, bit_at-zero, bit_at-lt, and_pow}
use Rattle.std.proofs.lemmas.Nat.{one_shl, pow_pos}
use Rattle.byte_set.specs.Bits.{bit_in, holds}
use Rattle.byte_set.specs.Sets.{Adds, Removes}

rest_below : (n : ℕ) → n % 64 < 64
rest_below n = omega arith

-- ---- a bit that is set or cleared

-- a word of the list becomes `word`, and of its bits one at most is another
other_bit : (ws : List ℕ) (n word j : ℕ) → n / 64 < length ws
    → (j ≢ n → j / 64 ≡ n / 64 → bit_at word (j % 64) ≡ bit_at (get_or ws (n / 64) 0) (j % 64)) → j ≢ n → holds (set ws (n / 64) word) j ≡ holds ws j
other_bit ws n word j within kept ne =
    ap (λ (b : ℕ). eqb b 1) (⊎_elim
    (λ (same : j / 64 ≡ n / 64). ap (λ (w : ℕ). bit_at (get_or (set ws (n / 64) word) w 0) (j % 64)) same
    ∙ ap (λ (v : ℕ). bit_at v (j % 64)) (get_or-set_same ws (n / 64) word 0 within) ∙ kept ne same
    ∙ ap (λ (w : ℕ). bit_at (get_or ws w 0) (j % 64)) (sym same))
    (λ other. ap (λ (v : ℕ). bit_at v (j % 64)) (get_or-set_other ws (n / 64) (j / 64) word 0 other))
    (cases_eq (j / 64) (n / 64)))

same_bit : (ws : List ℕ) (n word : ℕ) → n / 64 < length ws → bit_in (set ws (n / 64) word) n ≡ bit_at word (n % 64)
same_bit ws n word within = ap (λ (v : ℕ). bit_at v (n % 64)) (get_or-set_same ws (n / 64) word 0 within)

pub bit_set : (ws : List ℕ) (n x : ℕ) → n / 64 < length ws → x ≡ get_or ws (n / 64) 0
    → Adds (holds ws) n (holds (set ws (n / 64) (bit_or x (1 * 2 ^ (n % 64) % 2 ^ 64))))
bit_set ws n x within e =
    let word = bit_or x (1 * 2 ^ (n % 64) % 2 ^ 64) in
    record {
      one = eq-eqb _ 1 (same_bit ws n word within ∙ bit_at_set_same w64 x (n % 64) (rest_below n));
      others = λ j ne. other_bit ws n word j within
          (λ _ same. bit_at_set_other w64 x (n % 64) (rest_below n) (j % 64) (omega (arith, ne, same)) ∙ ap (λ (v : ℕ). bit_at v (j % 64)) e) ne;
    }

pub bit_cleared : (ws : List ℕ) (n x : ℕ) → n / 64 < length ws → x ≡ get_or ws (n / 64) 0
    → Removes (holds ws) n (holds (set ws (n / 64) (bit_and x (bit_not w64 (1 * 2 ^ (n % 64) % 2 ^ 64)))))
bit_cleared ws n x within e =
    let word = bit_and x (bit_not w64 (1 * 2 ^ (n % 64) % 2 ^ 64)) in
    let zero : bit_in (set ws (n / 64) word) n ≡ 0 = same_bit ws n word within ∙ bit_at_clear_same w64 x (n % 64) (rest_below n) in
    record {
      one = ne_eqb _ 1 (λ one. omega (arith, zero, one));
      others = λ j ne. other_bit ws n word j within
          (λ _ same. bit_at_clear_other w64 x (n % 64) (rest_below n) (j % 64) (rest_below j) (omega (arith, ne, same)) ∙ ap (λ (v : ℕ). bit_at v (j % 64)) e) ne;
    }

-- ---- a bit that is tested

bit_is : (v k : ℕ) → (bit_at v k ≡ 0) ⊎ (bit_at v k ≡ 1)
bit_is v k = ⊎_elim (λ z. inl z) (λ ne. inr (omega (arith, bit_at-lt v k))) (cases_eq (bit_at v k) 0)

pub bit_test : (x k : ℕ) → k < 64 → not (eqb (bit_and x (1 * 2 ^ k % 2 ^ 64)) 0) ≡ eqb (bit_at x k) 1
bit_test x k below =
    let one : 1 * 2 ^ k % 2 ^ 64 ≡ 2 ^ k = one_shl k 64 below in
    let masked : bit_and x (1 * 2 ^ k % 2 ^ 64) ≡ bit_at x k * 2 ^ k = ap (λ m. bit_and x m) one ∙ and_pow x k in
    ⊎_elim
    (λ (z : bit_at x k ≡ 0). let none : bit_and x (1 * 2 ^ k % 2 ^ 64) ≡ 0 = masked ∙ ap (λ b. b * 2 ^ k) z ∙ omega arith in
    ap not (eq-eqb _ 0 none) ∙ sym (ne_eqb _ 1 (λ o. omega (arith, z, o))))
    (λ (o : bit_at x k ≡ 1). let some : bit_and x (1 * 2 ^ k % 2 ^ 64) ≡ 2 ^ k = masked ∙ ap (λ b. b * 2 ^ k) o ∙ omega arith in
    ap not (ne_eqb _ 0 (λ z. omega (arith, pow_pos k, some, z))) ∙ sym (eq-eqb _ 1 o))
    (bit_is x k)

-- ---- a word of 0

pub no_word : (ws : List ℕ) (n : ℕ) → get_or ws (n / 64) 0 ≡ 0 → holds ws n ≡ false
no_word ws n z = ne_eqb _ 1 (λ one. omega (arith, one, ap (λ (v : ℕ). bit_at v (n % 64)) z ∙ bit_at-zero (n % 64)))
