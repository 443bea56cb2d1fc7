-- There is one host memory at the opening: its words fix its bytes.
use Rattle.std.proofs.Common.{arith, ◌≡◌, ◌<◌, ◌≤◌, ◌⊎◌, inl, inr, ℕ, false, zero, suc, ◌+◌, ◌*◌, ◌/◌, ◌%◌, List, [], ◌∷◌, length, replicate, slice_index, refl, sym, ap, ◌∙◌}
use Rattle.std.proofs.lemmas.List.{ext_get_or, length-replicate}
use Rattle.bench_words.specs.Memory.{word_at, put_word, IsZero}
use Rattle.bench_words.specs.Bytes.{IsBytes}
use Rattle.bench_words.proofs.Bytes.{bytes-zeros, bytes-put_word}
use Rattle.bench_words.proofs.Cells.{word_at-plus}
use Rattle.rig_types.specs.declared.rig.Unit.{Unit as RigUnit}
use Rattle.host_map.specs.declared.TheConstants.{MEMORY_BYTES}
use Rattle.opening_memory.specs.Opening.{IsOpening, opening_table}
use Rattle.opening_memory.specs.Tables.{written}
use Rattle.world_law.specs.World.{BenchSetting}
use Rattle.world_law.specs.Opening.{memory_opened}
use Rattle.world_law.proofs.Opens.{opens}

-- a word of bytes has one spelling
record AreFour (a b c d : ℕ) : Type 0 where
  pub first : a < 256
  pub second : b < 256
  pub third : c < 256
  pub fourth : d < 256

record SameFour (a b c d a' b' c' d' : ℕ) : Type 0 where
  pub first : a ≡ a'
  pub second : b ≡ b'
  pub third : c ≡ c'
  pub fourth : d ≡ d'

one-spelling : (a b c d a' b' c' d' : ℕ) → AreFour a b c d → AreFour a' b' c' d'
    → a + 256 * b + 65536 * c + 16777216 * d ≡ a' + 256 * b' + 65536 * c' + 16777216 * d' → SameFour a b c d a' b' c' d'
one-spelling a b c d a' b' c' d' l l' e = record {
  first = omega (arith, l.first, l.second, l.third, l.fourth, l'.first, l'.second, l'.third, l'.fourth, e);
  second = omega (arith, l.first, l.second, l.third, l.fourth, l'.first, l'.second, l'.third, l'.fourth, e);
  third = omega (arith, l.first, l.second, l.third, l.fourth, l'.first, l'.second, l'.third, l'.fourth, e);
  fourth = omega (arith, l.first, l.second, l.third, l.fourth, l'.first, l'.second, l'.third, l'.fourth, e);
}

bytes-from : (m : List ℕ) (x : ℕ) → IsBytes m → AreFour (slice_index m x) (slice_index m (x + 1)) (slice_index m (x + 2)) (slice_index m (x + 3))
bytes-from m x h = record { first = h.below x; second = h.below (x + 1); third = h.below (x + 2); fourth = h.below (x + 3) }

same-four : (m n : List ℕ) (x : ℕ) → IsBytes m → IsBytes n → word_at m x ≡ word_at n x
    → SameFour (slice_index m x) (slice_index m (x + 1)) (slice_index m (x + 2)) (slice_index m (x + 3))
    (slice_index n x) (slice_index n (x + 1)) (slice_index n (x + 2)) (slice_index n (x + 3))
same-four m n x h k e =
    one-spelling _ _ _ _ _ _ _ _ (bytes-from m x h) (bytes-from n x k) (sym (word_at-plus m x) ∙ e ∙ word_at-plus n x)

-- a place is one of the four of its word
abbrev IsOneOf : (i x : ℕ) → Type 0
IsOneOf i x = (i ≡ x) ⊎ ((i ≡ x + 1) ⊎ ((i ≡ x + 2) ⊎ (i ≡ x + 3)))

by-rest : (i x r : ℕ) → r < 4 → i ≡ x + r → IsOneOf i x
by-rest i x zero l e = inl (omega (arith, e))
by-rest i x (suc zero) l e = inr (inl e)
by-rest i x (suc (suc zero)) l e = inr (inr (inl e))
by-rest i x (suc (suc (suc zero))) l e = inr (inr (inr e))
by-rest i x (suc (suc (suc (suc r)))) l e = absurd (omega (arith, l))

place-of : (i : ℕ) → IsOneOf i (4 * (i / 4))
place-of i = by-rest i (4 * (i / 4)) (i % 4) (omega arith) (omega arith)

same-byte : (m n : List ℕ) → IsBytes m → IsBytes n → ((x : ℕ) → x % 4 ≡ 0 → x + 4 ≤ 0x400000 → word_at m x ≡ word_at n x)
    → (i : ℕ) → i < 0x400000 → slice_index m i ≡ slice_index n i
same-byte m n h k e i l =
    let four = same-four m n (4 * (i / 4)) h k (e (4 * (i / 4)) (omega arith) (omega (arith, l))) in
    elim (place-of i) [
      | inl p ↦ ap (λ (j : ℕ). slice_index m j) p ∙ four.first ∙ sym (ap (λ (j : ℕ). slice_index n j) p)
      | inr q ↦ elim q [
        | inl p ↦ ap (λ (j : ℕ). slice_index m j) p ∙ four.second ∙ sym (ap (λ (j : ℕ). slice_index n j) p)
        | inr r ↦ elim r [
          | inl p ↦ ap (λ (j : ℕ). slice_index m j) p ∙ four.third ∙ sym (ap (λ (j : ℕ). slice_index n j) p)
          | inr p ↦ ap (λ (j : ℕ). slice_index m j) p ∙ four.fourth ∙ sym (ap (λ (j : ℕ). slice_index n j) p)
        ]
      ]
    ]

pub one_opening : (m n : List ℕ) (version : ℕ) (us : List RigUnit) → IsOpening m version us → IsOpening n version us → IsBytes m → IsBytes n → m ≡ n
one_opening m n version us a b h k =
    ext_get_or 0 m n (a.size ∙ sym b.size)
    (λ i l. same-byte m n h k (λ x p q. a.words x p q ∙ sym (b.words x p q)) i (omega (arith, l, a.size)))

bytes-written : (m : List ℕ) (ps : List (ℕ × ℕ)) → IsBytes m → IsBytes (written m ps)
unfolding written
bytes-written m [] h = h
bytes-written m (p ∷ ps) h = bytes-written (put_word m p.0 p.1) ps (bytes-put_word m p.0 p.1 h)

all-zero : (n i : ℕ) → slice_index (replicate n 0) i ≡ 0
all-zero zero i = refl
all-zero (suc n) zero = refl
all-zero (suc n) (suc i) = all-zero n i

zeros : (n : ℕ) → IsZero (replicate n 0) n
zeros n = record { size = length-replicate n 0; zeros = all-zero n }

bytes-of-zeros : (n : ℕ) → IsBytes (replicate n 0)
bytes-of-zeros n = bytes-zeros (replicate n 0) n (zeros n)

bytes-opened : (version : ℕ) (us : List RigUnit) → IsBytes (memory_opened version us)
unfolding memory_opened
bytes-opened version us = bytes-written (replicate MEMORY_BYTES 0) (opening_table version us) (bytes-of-zeros MEMORY_BYTES)

abbrev setting-of : (version : ℕ) → List RigUnit → BenchSetting
setting-of version us = record { version = version; units = us; retries = 0; step_limit = 0; autosense = false; submitters = []; acts = [] }

pub opening_is : (m : List ℕ) (version : ℕ) (us : List RigUnit) → length us ≤ 16 → IsOpening m version us → IsBytes m → m ≡ memory_opened version us
opening_is m version us few o h = one_opening m (memory_opened version us) version us o (opens (setting-of version us) few) h (bytes-opened version us)
