-- The free bytes are at most those of the region, and as many only where each unit is one free chunk.
use Rattle.std.proofs.Common.{◌≡◌, ◌≢◌, ◌↔◌, ℕ, zero, suc, ◌+◌, ◌-◌, ◌*◌, ◌/◌, ◌%◌, ◌^◌, ◌<◌, ◌≤◌, cond, eqb, ltb, leb, List, [], ◌∷◌, refl, sym, ap, ◌∙◌, subst, inl, inr, ⊎_elim, arith}
use Rattle.std.specs.List.{sum_by}
use Rattle.std.specs.Prelude.{IsTrue}
use Rattle.std.proofs.Math.Nat.{pow-suc, mul-mod_right}
use Rattle.std.proofs.lemmas.Bool.{cases_lt, cases_order, lt-ltb, le-ltb, le-leb, lt-leb, eqb-true, eq-eqb}
use Rattle.std.proofs.lemmas.Nat.{pow_pos}
use Rattle.std.proofs.lemmas.List.Sums.{sum_by-cons}
use Rattle.dma_buddy.specs.declared.buddies.Chunk.{Chunk}
use Rattle.dma_buddy.specs.Chunks.{IsChunk, Apart, buddy, joined}
use Rattle.dma_buddy.specs.Regions.{Space, IsAmong, IsFree, IsListed, IsChunkOf, IsRegion, IsWhole, bytes_free}
use Rattle.dma_buddy.proofs.Sizes.{size-least, size-most, size-next, size-unit, multiple-of, lower-half, same-chunk}
use Rattle.dma_buddy.proofs.Sets.{same-or-not, among-or-not, not-before-itself}

-- ---- the bytes of the chunks that begin in a range

abbrev part : ℕ → ℕ → Chunk → ℕ
part lo hi c = cond (leb lo c.base) (cond (ltb c.base hi) c.size 0) 0

part-in : (lo hi : ℕ) (c : Chunk) → lo ≤ c.base → c.base < hi → part lo hi c ≡ c.size
part-in lo hi c l h = ap (λ b. cond b (cond (ltb c.base hi) c.size 0) 0) (le-leb lo c.base l) ∙ ap (λ b. cond b c.size 0) (lt-ltb c.base hi h)

part-low : (lo hi : ℕ) (c : Chunk) → c.base < lo → part lo hi c ≡ 0
part-low lo hi c l = ap (λ b. cond b (cond (ltb c.base hi) c.size 0) 0) (lt-leb lo c.base l)

part-high : (lo hi : ℕ) (c : Chunk) → lo ≤ c.base → hi ≤ c.base → part lo hi c ≡ 0
part-high lo hi c l h = ap (λ b. cond b (cond (ltb c.base hi) c.size 0) 0) (le-leb lo c.base l) ∙ ap (λ b. cond b c.size 0) (le-ltb c.base hi h)

abbrev part_sum : ℕ → ℕ → List Chunk → ℕ
part_sum lo hi [] = 0
part_sum lo hi (c ∷ cs) = part lo hi c + part_sum lo hi cs

part-split : (lo mid hi : ℕ) (c : Chunk) → lo ≤ mid → mid ≤ hi → part lo hi c ≡ part lo mid c + part mid hi c
part-split lo mid hi c p q = ⊎_elim
    (λ (below : c.base < lo). omega (arith, part-low lo hi c below, part-low lo mid c below, part-low mid hi c (omega arith)))
    (λ (from : lo ≤ c.base). ⊎_elim
    (λ (in-low : c.base < mid). omega (arith, part-in lo hi c from (omega arith), part-in lo mid c from in-low, part-low mid hi c in-low))
    (λ (past : mid ≤ c.base). ⊎_elim
    (λ (in-high : c.base < hi). omega (arith, part-in lo hi c from in-high, part-high lo mid c from past, part-in mid hi c past in-high))
    (λ (out : hi ≤ c.base). omega (arith, part-high lo hi c from out, part-high lo mid c from past, part-high mid hi c past out))
    (cases_lt c.base hi))
    (cases_lt c.base mid))
    (cases_lt c.base lo)

sum-split : (lo mid hi : ℕ) (xs : List Chunk) → lo ≤ mid → mid ≤ hi → part_sum lo hi xs ≡ part_sum lo mid xs + part_sum mid hi xs
sum-split lo mid hi [] p q = refl
sum-split lo mid hi (x ∷ xs) p q = omega (arith, part-split lo mid hi x p q, sum-split lo mid hi xs p q)

sum-all : (lo hi : ℕ) (xs : List Chunk) → ((c : Chunk) → IsAmong xs c → (lo ≤ c.base) × (c.base < hi)) → part_sum lo hi xs ≡ sum_by (λ c. c.size) xs
sum-all lo hi [] h = refl
sum-all lo hi (x ∷ xs) h = omega (arith, part-in lo hi x (h x (inl refl)).0 (h x (inl refl)).1, sum-all lo hi xs (λ c i. h c (inr i)), sum_by-cons (λ (c : Chunk). c.size) x xs)

sum-none : (lo hi : ℕ) (xs : List Chunk) → ((c : Chunk) → IsAmong xs c → lo ≤ c.base → c.base < hi → ⊥) → part_sum lo hi xs ≡ 0
sum-none lo hi [] h = refl
sum-none lo hi (x ∷ xs) h =
    let rest : part_sum lo hi xs ≡ 0 = sum-none lo hi xs (λ c i. h c (inr i)) in
    ⊎_elim
    (λ (below : x.base < lo). omega (arith, part-low lo hi x below, rest))
    (λ (from : lo ≤ x.base). ⊎_elim
    (λ (inside : x.base < hi). absurd (h x (inl refl) from inside))
    (λ (past : hi ≤ x.base). omega (arith, part-high lo hi x from past, rest))
    (cases_lt x.base hi))
    (cases_lt x.base lo)

sum-one : (lo hi : ℕ) (xs : List Chunk) (b : Chunk) → IsListed xs → IsAmong xs b → lo ≤ b.base → b.base < hi → ((c : Chunk) → IsAmong xs c → lo ≤ c.base → c.base < hi → c ≡ b) → part_sum lo hi xs ≡ b.size
sum-one lo hi [] b l i from to only = absurd i
sum-one lo hi (x ∷ xs) b l i from to only = ⊎_elim
    (λ (e : b ≡ x).
    let rest : part_sum lo hi xs ≡ 0 = sum-none lo hi xs (λ c j f t. not-before-itself x c (sym e ∙ sym (only c (inr j) f t)) (l.0 c j)) in
    let same : part lo hi x ≡ part lo hi b = ap (part lo hi) (sym e) in
    omega (arith, rest, same, part-in lo hi b from to))
    (λ (j : IsAmong xs b).
    let rest : part_sum lo hi xs ≡ b.size = sum-one lo hi xs b l.1 j from to (λ c k. only c (inr k)) in
    let other : (lo ≤ x.base) → (x.base < hi) → ⊥ = λ f t. not-before-itself x b (only x (inl refl) f t) (l.0 b j) in
    ⊎_elim
    (λ (below : x.base < lo). omega (arith, part-low lo hi x below, rest))
    (λ (f : lo ≤ x.base). ⊎_elim (λ (t : x.base < hi). absurd (other f t)) (λ (past : hi ≤ x.base). omega (arith, part-high lo hi x f past, rest)) (cases_lt x.base hi))
    (cases_lt x.base lo))
    i

-- ---- blocks

-- Of two multiples of s, one within s of the other is that other.
pub multiples : (s p q : ℕ) → s * p ≤ s * q → s * q < s * p + s → p ≡ q
multiples s p q l h = ⊎_elim (λ e. e) (λ o. absurd (⊎_elim
    (λ (less : p < q). let m : (m : ℕ) × (q ≡ p + 1 + m) = (q - p - 1, omega arith) in
    let e : s * q ≡ s * p + s + s * m.0 = ap (λ v. s * v) m.1 ∙ omega arith in omega (arith, e))
    (λ (less : q < p). let m : (m : ℕ) × (p ≡ q + 1 + m) = (p - q - 1, omega arith) in
    let e : s * p ≡ s * q + s + s * m.0 = ap (λ v. s * v) m.1 ∙ omega arith in omega (arith, e)) o))
    (cases_order p q)

pub same-multiple : (s a b : ℕ) → a % s ≡ 0 → b % s ≡ 0 → a ≤ b → b < a + s → a ≡ b
same-multiple s a b ea eb l h =
    let am : a ≡ s * (a / s) = multiple-of a s ea in
    let bm : b ≡ s * (b / s) = multiple-of b s eb in
    am ∙ ap (λ v. s * v) (multiples s (a / s) (b / s) (omega (arith, am, bm)) (omega (arith, am, bm))) ∙ sym bm

abbrev block : ℕ → ℕ → Chunk
block j a = record { base = a; size = 512 * 2 ^ j }

module _ (xs : List Chunk) (chunks : (c : Chunk) → IsAmong xs c → IsChunk c) (apart : (c d : Chunk) → IsAmong xs c → IsAmong xs d → c ≢ d → Apart c d) (l : IsListed xs) where
  only-block : (j a : ℕ) → IsAmong xs (block j a) → (c : Chunk) → IsAmong xs c → a ≤ c.base → c.base < a + 512 * 2 ^ j → c ≡ block j a
  only-block j a b c i f t = ⊎_elim (λ e. e)
      (λ ne. absurd (⊎_elim
      (λ before. omega (arith, size-least c.size (chunks c i).size))
      (λ after. omega arith)
      (apart c (block j a) i b ne)))
      (same-or-not c (block j a))

  block-sum : (j a : ℕ) → IsAmong xs (block j a) → part_sum a (a + 512 * 2 ^ j) xs ≡ 512 * 2 ^ j
  block-sum j a b = sum-one a (a + 512 * 2 ^ j) xs (block j a) l b (omega arith) (omega (arith, pow_pos j)) (only-block j a b)

  -- where the block isn't free, each chunk that begins in it is smaller
  smaller : (j a : ℕ) → j < 8 → a % (512 * 2 ^ j) ≡ 0 → (IsAmong xs (block j a) → ⊥) → (c : Chunk) → IsAmong xs c → a ≤ c.base → c.base < a + 512 * 2 ^ j → c.size ≤ 512 * 2 ^ j → c.size < 512 * 2 ^ j
  smaller j a jl al none c i f t most = ⊎_elim (λ lt. lt)
      (λ ge. absurd (
      let size : c.size ≡ 512 * 2 ^ j = omega arith in
      let aligned : c.base % (512 * 2 ^ j) ≡ 0 = subst (λ (s : ℕ). c.base % s ≡ 0) size (chunks c i).aligned in
      let base : c.base ≡ a = sym (same-multiple (512 * 2 ^ j) a c.base al aligned f t) in
      none (subst (λ (x : Chunk). IsAmong xs x) (same-chunk c (block j a) base size) i)))
      (cases_lt c.size (512 * 2 ^ j))

  abbrev AtMost : ℕ → ℕ → Type 0
  AtMost j a = (c : Chunk) → IsAmong xs c → a ≤ c.base → c.base < a + 512 * 2 ^ j → c.size ≤ 512 * 2 ^ j

  at-most-half : (j a b : ℕ) → suc j < 8 → a ≤ b → b + 512 * 2 ^ j ≤ a + 512 * 2 ^ suc j → a % (512 * 2 ^ suc j) ≡ 0 → (IsAmong xs (block (suc j) a) → ⊥) → AtMost (suc j) a → AtMost j b
  at-most-half j a b jl low high al none most c i f t =
      let less : c.size < 512 * 2 ^ suc j = smaller (suc j) a jl al none c i (omega arith) (omega arith) (most c i (omega arith) (omega arith)) in
      ⊎_elim (λ (gt : 512 * 2 ^ j < c.size). absurd (omega (arith, less, pow-suc 2 j, size-next (512 * 2 ^ j) c.size (j, omega arith, refl) (chunks c i).size gt))) (λ le. le) (cases_lt (512 * 2 ^ j) c.size)

  half-aligned : (j a : ℕ) → a % (512 * 2 ^ suc j) ≡ 0 → (a % (512 * 2 ^ j) ≡ 0) × ((a + 512 * 2 ^ j) % (512 * 2 ^ j) ≡ 0) × (a ≡ 2 * (512 * 2 ^ j) * (a / (512 * 2 ^ suc j)))
  half-aligned j a al =
      let x : ℕ = a / (512 * 2 ^ suc j) in
      let number : a ≡ 512 * 2 ^ suc j * x = multiple-of a (512 * 2 ^ suc j) al in
      let twice : 512 * 2 ^ suc j ≡ 2 * (512 * 2 ^ j) = omega (arith, pow-suc 2 j) in
      let double : a ≡ 2 * (512 * 2 ^ j) * x = number ∙ ap (λ v. v * x) twice in
      let low : a ≡ 512 * 2 ^ j * (2 * x) = double ∙ omega arith in
      let high : a + 512 * 2 ^ j ≡ 512 * 2 ^ j * (2 * x + 1) = omega (arith, low) in
      (ap (λ v. v % (512 * 2 ^ j)) low ∙ mul-mod_right (512 * 2 ^ j) (2 * x), ap (λ v. v % (512 * 2 ^ j)) high ∙ mul-mod_right (512 * 2 ^ j) (2 * x + 1), double)

  bound : (j a : ℕ) → j < 8 → a % (512 * 2 ^ j) ≡ 0 → AtMost j a → part_sum a (a + 512 * 2 ^ j) xs ≤ 512 * 2 ^ j
  bound zero a jl al most = ⊎_elim
      (λ b. omega (arith, block-sum zero a b))
      (λ none. omega (
        arith,
        sum-none a (a + 512 * 2 ^ zero) xs (λ c i f t.
            let less : c.size < 512 * 2 ^ zero = smaller zero a jl al none c i f t (most c i f t) in
            omega (arith, less, size-least c.size (chunks c i).size)),
      ))
      (among-or-not xs (block zero a))
  bound (suc j) a jl al most = ⊎_elim
      (λ b. omega (arith, block-sum (suc j) a b))
      (λ none.
      let twice : 512 * 2 ^ suc j ≡ 512 * 2 ^ j + 512 * 2 ^ j = omega (arith, pow-suc 2 j) in
      let h : (a % (512 * 2 ^ j) ≡ 0) × ((a + 512 * 2 ^ j) % (512 * 2 ^ j) ≡ 0) × (a ≡ 2 * (512 * 2 ^ j) * (a / (512 * 2 ^ suc j))) = half-aligned j a al in
      let low : part_sum a (a + 512 * 2 ^ j) xs ≤ 512 * 2 ^ j = bound j a (omega arith) h.0 (at-most-half j a a jl (omega arith) (omega (arith, twice)) al none most) in
      let high : part_sum (a + 512 * 2 ^ j) (a + 512 * 2 ^ j + 512 * 2 ^ j) xs ≤ 512 * 2 ^ j = bound j (a + 512 * 2 ^ j) (omega arith) h.1 (at-most-half j a (a + 512 * 2 ^ j) jl (omega arith) (omega (arith, twice)) al none most) in
      let end : part_sum a (a + 512 * 2 ^ suc j) xs ≡ part_sum a (a + 512 * 2 ^ j + 512 * 2 ^ j) xs = ap (λ v. part_sum a v xs) (omega (arith, twice)) in
      omega (arith, twice, low, high, end, sum-split a (a + 512 * 2 ^ j) (a + 512 * 2 ^ j + 512 * 2 ^ j) xs (omega arith) (omega arith)))
      (among-or-not xs (block (suc j) a))

  full : ((c : Chunk) → IsAmong xs c → c.size < 65536 → IsAmong xs (buddy c) → ⊥) → (j a : ℕ) → j < 8 → a % (512 * 2 ^ j) ≡ 0 → AtMost j a → part_sum a (a + 512 * 2 ^ j) xs ≡ 512 * 2 ^ j → IsAmong xs (block j a)
  full merged zero a jl al most all = ⊎_elim
      (λ b. b)
      (λ none. absurd (omega (
        arith,
        all,
        sum-none a (a + 512 * 2 ^ zero) xs (λ c i f t.
            let less : c.size < 512 * 2 ^ zero = smaller zero a jl al none c i f t (most c i f t) in
            omega (arith, less, size-least c.size (chunks c i).size)),
      )))
      (among-or-not xs (block zero a))
  full merged (suc j) a jl al most all = ⊎_elim
      (λ b. b)
      (λ none. absurd (
      let twice : 512 * 2 ^ suc j ≡ 512 * 2 ^ j + 512 * 2 ^ j = omega (arith, pow-suc 2 j) in
      let h : (a % (512 * 2 ^ j) ≡ 0) × ((a + 512 * 2 ^ j) % (512 * 2 ^ j) ≡ 0) × (a ≡ 2 * (512 * 2 ^ j) * (a / (512 * 2 ^ suc j))) = half-aligned j a al in
      let most-low : AtMost j a = at-most-half j a a jl (omega arith) (omega (arith, twice)) al none most in
      let most-high : AtMost j (a + 512 * 2 ^ j) = at-most-half j a (a + 512 * 2 ^ j) jl (omega arith) (omega (arith, twice)) al none most in
      let low : part_sum a (a + 512 * 2 ^ j) xs ≤ 512 * 2 ^ j = bound j a (omega arith) h.0 most-low in
      let high : part_sum (a + 512 * 2 ^ j) (a + 512 * 2 ^ j + 512 * 2 ^ j) xs ≤ 512 * 2 ^ j = bound j (a + 512 * 2 ^ j) (omega arith) h.1 most-high in
      let end : part_sum a (a + 512 * 2 ^ suc j) xs ≡ part_sum a (a + 512 * 2 ^ j + 512 * 2 ^ j) xs = ap (λ v. part_sum a v xs) (omega (arith, twice)) in
      let split : part_sum a (a + 512 * 2 ^ j + 512 * 2 ^ j) xs ≡ part_sum a (a + 512 * 2 ^ j) xs + part_sum (a + 512 * 2 ^ j) (a + 512 * 2 ^ j + 512 * 2 ^ j) xs = sum-split a (a + 512 * 2 ^ j) (a + 512 * 2 ^ j + 512 * 2 ^ j) xs (omega arith) (omega arith) in
      let lower : IsAmong xs (block j a) = full merged j a (omega arith) h.0 most-low (omega (arith, twice, low, high, end, split, all)) in
      let upper : IsAmong xs (block j (a + 512 * 2 ^ j)) = full merged j (a + 512 * 2 ^ j) (omega arith) h.1 most-high (omega (arith, twice, low, high, end, split, all)) in
      let pos : 0 < 512 * 2 ^ j = omega (arith, pow_pos j) in
      let halves : ((buddy (block j a)).base ≡ a + 512 * 2 ^ j) × ((joined (block j a)).base ≡ a) = lower-half (block j a) (a / (512 * 2 ^ suc j)) pos h.2 in
      let other : buddy (block j a) ≡ block j (a + 512 * 2 ^ j) = same-chunk (buddy (block j a)) (block j (a + 512 * 2 ^ j)) halves.0 refl in
      let below : 512 * 2 ^ j < 65536 = omega (arith, pos, twice, size-most (512 * 2 ^ suc j) (suc j, omega arith, refl)) in
      merged (block j a) lower below (subst (λ (x : Chunk). IsAmong xs x) (sym other) upper)))
      (among-or-not xs (block (suc j) a))

-- ---- the units

abbrev unit_at : Space → ℕ → Chunk
unit_at s n = record { base = s.base + 65536 * n; size = 65536 }

module _ (s : Space) (r : IsRegion s) where
  chunk-of : (c : Chunk) → IsFree s c → IsChunk c
  chunk-of c i = (r.chunks c i).chunk

  unit-aligned : (n : ℕ) → (s.base + 65536 * n) % 65536 ≡ 0
  unit-aligned n = let a : s.base % 65536 ≡ 0 = r.aligned in omega arith

  unit-most : (n : ℕ) → AtMost s.free chunk-of r.apart r.listed 7 (s.base + 65536 * n)
  unit-most n c i f t = size-most c.size (chunk-of c i).size

  unit-bound : (n : ℕ) → part_sum (s.base + 65536 * n) (s.base + 65536 * n + 65536) s.free ≤ 65536
  unit-bound n = bound s.free chunk-of r.apart r.listed 7 (s.base + 65536 * n) (omega arith) (unit-aligned n) (unit-most n)

  next : (n : ℕ) → part_sum s.base (s.base + 65536 * (suc n)) s.free ≡ part_sum s.base (s.base + 65536 * n) s.free + part_sum (s.base + 65536 * n) (s.base + 65536 * n + 65536) s.free
  next n =
      let end : part_sum s.base (s.base + 65536 * (suc n)) s.free ≡ part_sum s.base (s.base + 65536 * n + 65536) s.free = ap (λ v. part_sum s.base v s.free) (omega arith) in
      end ∙ sum-split s.base (s.base + 65536 * n) (s.base + 65536 * n + 65536) s.free (omega arith) (omega arith)

  units-bound : (n : ℕ) → part_sum s.base (s.base + 65536 * n) s.free ≤ 65536 * n
  units-bound zero = omega (arith, sum-none s.base (s.base + 65536 * zero) s.free (λ c i f t. omega arith))
  units-bound (suc n) = omega (arith, next n, units-bound n, unit-bound n)

  all-inside : (c : Chunk) → IsFree s c → (s.base ≤ c.base) × (c.base < s.base + 65536 * s.units)
  all-inside c i = ((r.chunks c i).from, omega (arith, (r.chunks c i).to, size-least c.size (chunk-of c i).size))

  total : part_sum s.base (s.base + 65536 * s.units) s.free ≡ bytes_free s
  total = sum-all s.base (s.base + 65536 * s.units) s.free all-inside

  pub most-free : bytes_free s ≤ 65536 * s.units
  most-free = omega (arith, total, units-bound s.units)

  units-full : (n : ℕ) → part_sum s.base (s.base + 65536 * n) s.free ≡ 65536 * n → (k : ℕ) → k < n → IsFree s (unit_at s k)
  units-full zero all k l = absurd (omega arith)
  units-full (suc n) all k l =
      let last : part_sum (s.base + 65536 * n) (s.base + 65536 * n + 65536) s.free ≡ 65536 = omega (arith, all, next n, units-bound n, unit-bound n) in
      let front : part_sum s.base (s.base + 65536 * n) s.free ≡ 65536 * n = omega (arith, all, next n, units-bound n, unit-bound n) in
      ⊎_elim
      (λ (below : k < n). units-full n front k below)
      (λ (ge : n ≤ k).
      let here : n ≡ k = omega arith in
      subst (λ (m : ℕ). IsFree s (unit_at s m)) here
      (full s.free chunk-of r.apart r.listed r.merged 7 (s.base + 65536 * n) (omega arith) (unit-aligned n) (unit-most n) last))
      (cases_lt k n)

  -- the unit in which an address of the region lies
  unit-of : (a : ℕ) → s.base ≤ a → a < s.base + 65536 * s.units → (n : ℕ) × (n < s.units) × (s.base + 65536 * n ≤ a) × (a < s.base + 65536 * n + 65536)
  unit-of a f t = ((a - s.base) / 65536, omega arith, omega arith, omega arith)

  whole-from-bytes : bytes_free s ≡ 65536 * s.units → IsWhole s
  whole-from-bytes e c = (
    (λ i.
        let u : (n : ℕ) × (n < s.units) × (s.base + 65536 * n ≤ c.base) × (c.base < s.base + 65536 * n + 65536) = unit-of c.base (all-inside c i).0 (all-inside c i).1 in
        let free : IsFree s (unit_at s u.0) = units-full s.units (total ∙ e) u.0 u.1 in
        let same : c ≡ unit_at s u.0 = only-block s.free chunk-of r.apart r.listed 7 (s.base + 65536 * u.0) free c i u.2 u.3 in
        (r.chunks c i, ap (λ (x : Chunk). x.size) same)),
    (λ h.
        let inside : c.base < s.base + 65536 * s.units = omega (arith, h.1, h.0.to) in
        let u : (n : ℕ) × (n < s.units) × (s.base + 65536 * n ≤ c.base) × (c.base < s.base + 65536 * n + 65536) = unit-of c.base h.0.from inside in
        let aligned : c.base % 65536 ≡ 0 = subst (λ (z : ℕ). c.base % z ≡ 0) h.1 h.0.chunk.aligned in
        let base : c.base ≡ s.base + 65536 * u.0 = sym (same-multiple 65536 (s.base + 65536 * u.0) c.base (unit-aligned u.0) aligned u.2 u.3) in
        subst (λ (x : Chunk). IsFree s x) (sym (same-chunk c (unit_at s u.0) base h.1)) (units-full s.units (total ∙ e) u.0 u.1)),
  )

  unit-chunk : (n : ℕ) → n < s.units → IsChunkOf s (unit_at s n)
  unit-chunk n l = record { chunk = record { size = size-unit; aligned = unit-aligned n }; from = omega arith; to = omega arith }

  units-sum : IsWhole s → (n : ℕ) → n ≤ s.units → part_sum s.base (s.base + 65536 * n) s.free ≡ 65536 * n
  units-sum w zero l = sum-none s.base (s.base + 65536 * zero) s.free (λ c i f t. omega arith)
  units-sum w (suc n) l =
      let free : IsFree s (unit_at s n) = (w (unit_at s n)).1 (unit-chunk n (omega arith), refl) in
      omega (arith, next n, units-sum w n (omega arith), block-sum s.free chunk-of r.apart r.listed 7 (s.base + 65536 * n) free)

  pub whole-iff : (bytes_free s ≡ 65536 * s.units) ↔ IsWhole s
  whole-iff = (whole-from-bytes, λ w. sym total ∙ units-sum w s.units (omega arith))

  pub whole-test : (b u : ℕ) → b ≡ bytes_free s → u ≡ s.units → IsTrue (eqb b (65536 * u)) ↔ IsWhole s
  whole-test b u eb eu = (
    (λ t. let all : b ≡ 65536 * u = eqb-true b (65536 * u) t in whole-iff.0 (omega (arith, all, eb, eu))),
    (λ w. eq-eqb b (65536 * u) (omega (arith, whole-iff.1 w, eb, eu))),
  )
