-- LOAD and STORE of four bytes, by words.
use Rattle.std.proofs.Common.{◌≡◌, ℕ, pos, ◌+◌, ◌/◌, ◌%◌, List, [], ◌∷◌, length, get_or, set, Bool, true, false, nat_eq, nat_le, Option, Some, None, MatchBool, refl, sym, ap, subst, ◌∙◌, ◌≤◌, arith}
use Rattle.std.specs.Prelude.{if◌then◌else◌}
use Rattle.std.proofs.lemmas.Bool.Decides.{nat_tests}
use Rattle.bench_words.specs.Memory.{word_at, put_word}
use Rattle.bench_words.specs.Bytes.{IsBytes}
use Rattle.bench_words.proofs.Cells.{put_bytes-cons, put_bytes-nil, word_at-plus}
use Rattle.chip_regs.specs.Registers.{byte_at, written, with_byte}
use Rattle.chip_regs.specs.Bytes.{Wide, Dsa, Temp, ScratchA, ScratchB, base_of, held, holding}
use Rattle.chip_regs.proofs.Words.{whole, with_all}
use Rattle.chip_regs.specs.declared.registers.Regs.{Regs}
use Rattle.chip_regs.specs.declared.registers.Cause.TheVariants.{Iid}
use Rattle.scripts_ops.specs.declared.values.Address.TheVariants.{At, FromDsa}
use Rattle.chip_step.specs.Chip.{Becomes, Stops}
use Rattle.chip_step.specs.Addresses.{place_of, address_of, low_bits}
use Rattle.chip_step.specs.Memory.{filled, stored, LoadsAt, StoresAt}
use Rattle.chip_rows.specs.Words.{MovesWords, IsWordAt, FindsWords, LoadsWords, StoresWords}

all_loaded : (m : List ℕ) (a w : ℕ) → IsBytes m → with_byte (with_byte (with_byte (with_byte w 0 (get_or m a 0)) 1 (get_or m (a + 1) 0)) 2 (get_or m (a + 1 + 1) 0)) 3 (get_or m (a + 1 + 1 + 1) 0) ≡ word_at m a
all_loaded m a w h =
    let e2 : get_or m (a + 1 + 1) 0 ≡ get_or m (a + 2) 0 = ap (λ (i : ℕ). get_or m i 0) (omega arith) in
    let e3 : get_or m (a + 1 + 1 + 1) 0 ≡ get_or m (a + 3) 0 = ap (λ (i : ℕ). get_or m i 0) (omega arith) in
    let e : whole (get_or m a 0) (get_or m (a + 1) 0) (get_or m (a + 1 + 1) 0) (get_or m (a + 1 + 1 + 1) 0) ≡ word_at m a = omega (arith, word_at-plus m a, e2, e3) in
    with_all w (get_or m a 0) (get_or m (a + 1) 0) (get_or m (a + 1 + 1) 0) (get_or m (a + 1 + 1 + 1) 0)
    (record { zeroth = h.below a; first = h.below (a + 1); second = h.below (a + 1 + 1); third = h.below (a + 1 + 1 + 1) }) ∙ e

pub load : (x : Wide) (m : List ℕ) (a : ℕ) (r : Regs) → IsBytes m → filled 4 (base_of x) m a r ≡ holding x (word_at m a) r
unfolding written
load Dsa m a r h = ap (λ (w : ℕ). holding Dsa w r) (all_loaded m a r.dsa h)
load Temp m a r h = ap (λ (w : ℕ). holding Temp w r) (all_loaded m a r.temp h)
load ScratchA m a r h = ap (λ (w : ℕ). holding ScratchA w r) (all_loaded m a r.scratcha h)
load ScratchB m a r h = ap (λ (w : ℕ). holding ScratchB w r) (all_loaded m a r.scratchb h)

all_stored : (m : List ℕ) (a w : ℕ) → set (set (set (set m a (w % 256)) (a + 1) (w / 256 % 256)) (a + 1 + 1) (w / 65536 % 256)) (a + 1 + 1 + 1) (w / 16777216 % 256) ≡ put_word m a w
unfolding put_word
all_stored m a w = sym (
    put_bytes-cons m a (w % 256) (w / 256 % 256 ∷ w / 65536 % 256 ∷ w / 16777216 % 256 ∷ [])
    ∙ put_bytes-cons (set m a (w % 256)) (a + 1) (w / 256 % 256) (w / 65536 % 256 ∷ w / 16777216 % 256 ∷ [])
    ∙ put_bytes-cons (set (set m a (w % 256)) (a + 1) (w / 256 % 256)) (a + 1 + 1) (w / 65536 % 256) (w / 16777216 % 256 ∷ [])
    ∙ put_bytes-cons (set (set (set m a (w % 256)) (a + 1) (w / 256 % 256)) (a + 1 + 1) (w / 65536 % 256)) (a + 1 + 1 + 1) (w / 16777216 % 256) []
    ∙ put_bytes-nil (set (set (set (set m a (w % 256)) (a + 1) (w / 256 % 256)) (a + 1 + 1) (w / 65536 % 256)) (a + 1 + 1 + 1) (w / 16777216 % 256)) (a + 1 + 1 + 1 + 1))

pub store : (x : Wide) (m : List ℕ) (a : ℕ) (r : Regs) → stored 4 (base_of x) m a r ≡ put_word m a (held x r)
unfolding byte_at
store Dsa m a r = all_stored m a r.dsa
store Temp m a r = all_stored m a r.temp
store ScratchA m a r = all_stored m a r.scratcha
store ScratchB m a r = all_stored m a r.scratchb

pub moves_words : MovesWords
moves_words = record { load = load; store = store }

-- ---- the rows

some_if : (a : ℕ) (b : Bool) → b ≡ true → (if b then Some a else None) ≡ Some a
some_if a true h = refl
some_if a false h = absurd cc

absolute : (m : List ℕ) (dsa a : ℕ) → a % 4 ≡ 0 → a + 4 ≤ length m → IsWordAt m dsa (At a) a
absolute m dsa a z f = record { low = z; at = some_if a (nat_le (a + 4) (length m)) (grind (arith, nat_tests)) }

from_dsa : (m : List ℕ) (dsa o : ℕ) → (dsa + o) % 4 ≡ 0 → dsa + o + 4 ≤ length m → IsWordAt m dsa (FromDsa (pos o)) (dsa + o)
unfolding place_of
from_dsa m dsa o z f = record { low = z; at = some_if (dsa + o) (nat_le (dsa + o + 4) (length m)) (grind (arith, nat_tests)) }

pub finds_words : FindsWords
finds_words = record { absolute = absolute; from_dsa = from_dsa }

low_matches : (x : Wide) (low : ℕ) → low ≡ 0 → nat_eq low (base_of x % 4) ≡ true
low_matches Dsa low e = ap (λ (k : ℕ). nat_eq k 0) e
low_matches Temp low e = ap (λ (k : ℕ). nat_eq k 0) e
low_matches ScratchA low e = ap (λ (k : ℕ). nat_eq k 0) e
low_matches ScratchB low e = ap (λ (k : ℕ). nat_eq k 0) e

when : (P Q : Type 0) (b : Bool) → b ≡ true → MatchBool b P Q → P
when P Q true e h = h
when P Q false e h = absurd cc

module _ {B : Type 0} where
  pub loads_words : LoadsWords B
  loads_words x place a old end new bytes w h =
      let l : LoadsAt (address_of old.memory old.regs.dsa place 4) (base_of x) 4 old end new =
      when (LoadsAt (address_of old.memory old.regs.dsa place 4) (base_of x) 4 old end new) (Stops Iid old end new) (nat_eq (low_bits old.regs.dsa place) (base_of x % 4)) (low_matches x (low_bits old.regs.dsa place) w.low) h in
      let b : Becomes (filled 4 (base_of x) old.memory a old.regs) old end new = subst (λ (o : Option ℕ). LoadsAt o (base_of x) 4 old end new) w.at l in
      subst (λ (r : Regs). Becomes r old end new) (load x old.memory a old.regs bytes) b

  pub stores_words : StoresWords B
  stores_words x place a old end new w h =
      let l : StoresAt (address_of old.memory old.regs.dsa place 4) (base_of x) 4 old end new =
      when (StoresAt (address_of old.memory old.regs.dsa place 4) (base_of x) 4 old end new) (Stops Iid old end new) (nat_eq (low_bits old.regs.dsa place) (base_of x % 4)) (low_matches x (low_bits old.regs.dsa place) w.low) h in
      let b : Becomes old.regs (record old { memory = stored 4 (base_of x) old.memory a old.regs }) end new = subst (λ (o : Option ℕ). StoresAt o (base_of x) 4 old end new) w.at l in
      subst (λ (m : List ℕ). Becomes old.regs (record old { memory = m }) end new) (store x old.memory a old.regs) b
