-- Chunks that share no address, and chunks within others.
use Rattle.std.proofs.Common.{◌≡◌, ℕ, ◌+◌, ◌*◌, ◌/◌, ◌%◌, ◌<◌, ◌≤◌, inl, inr, ⊎_elim, arith}
use Rattle.std.proofs.Math.Nat.{mul-mod_right, mul-le-mul_left}
use Rattle.std.proofs.lemmas.Bool.{cases_lt}
use Rattle.dma_buddy.specs.declared.buddies.Chunk.{Chunk}
use Rattle.dma_buddy.specs.Chunks.{IsChunkSize, Apart, IsWithin, buddy, joined}
use Rattle.dma_buddy.specs.Regions.{Space, IsChunkOf, IsSamePlace}
use Rattle.dma_buddy.proofs.Sizes.{size-least, size-most, size-double, size-unit, Pair, pair, joined-aligned, aligned-down, sum-aligned, multiple-of, buddy-aligned}

pub apart-sym : (c d : Chunk) → Apart c d → Apart d c
apart-sym c d h = ⊎_elim (λ l. inr l) (λ r. inl r) h

pub apart-within : (d q w : Chunk) → IsWithin q w → Apart d w → Apart d q
apart-within d q w i h = ⊎_elim (λ l. inl (omega (arith, i.0, i.1))) (λ r. inr (omega (arith, i.0, i.1))) h

pub not-apart-itself : (c : Chunk) → 0 < c.size → Apart c c → ⊥
not-apart-itself c p h = ⊎_elim (λ l. omega arith) (λ r. omega arith) h

-- two chunks with one base
pub not-apart-base : (c d : Chunk) → 0 < c.size → 0 < d.size → c.base ≡ d.base → Apart c d → ⊥
not-apart-base c d p q e h = ⊎_elim (λ l. omega arith) (λ r. omega arith) h

pub apart-not-within : (w q : Chunk) → 0 < q.size → Apart w q → IsWithin q w → ⊥
apart-not-within w q p h i = ⊎_elim (λ l. omega (arith, i.0, i.1)) (λ r. omega (arith, i.0, i.1)) h

pub within-trans : (a b c : Chunk) → IsWithin a b → IsWithin b c → IsWithin a c
within-trans a b c i j = (omega (arith, i.0, j.0), omega (arith, i.1, j.1))

-- ---- buddies

pub halves-within : (w : Chunk) → 0 < w.size → w.base % w.size ≡ 0 → IsWithin w (joined w) × IsWithin (buddy w) (joined w)
halves-within w pos al = let p : Pair w = pair w pos al in ⊎_elim
    (λ l. ((omega (arith, l.0, p.joined_base), omega (arith, l.0, p.joined_base)), (omega (arith, l.1, p.joined_base), omega (arith, l.1, p.joined_base))))
    (λ r. ((omega (arith, r.0, p.joined_base), omega (arith, r.0, p.joined_base)), (omega (arith, r.1, p.joined_base), omega (arith, r.1, p.joined_base))))
    p.lies

pub buddies-apart : (w : Chunk) → 0 < w.size → w.base % w.size ≡ 0 → Apart w (buddy w)
buddies-apart w pos al = let p : Pair w = pair w pos al in ⊎_elim
    (λ l. inl (omega (arith, l.0, l.1)))
    (λ r. inr (omega (arith, r.0, r.1)))
    p.lies

-- what is apart from both halves is apart from the whole
pub apart-joined : (w q : Chunk) → 0 < w.size → w.base % w.size ≡ 0 → 0 < q.size → Apart w q → Apart (buddy w) q → Apart (joined w) q
apart-joined w q pos al qp a b =
    let p : Pair w = pair w pos al in
    let j : (joined w).base ≡ 2 * w.size * p.x = p.joined_base in
    ⊎_elim
    (λ l. let lw : w.base ≡ 2 * w.size * p.x = l.0 in let lb : (buddy w).base ≡ 2 * w.size * p.x + w.size = l.1 in ⊎_elim
    (λ a1. ⊎_elim (λ b1. inl (omega arith)) (λ b2. absurd (omega arith)) b)
    (λ a2. inr (omega arith))
    a)
    (λ r. let rw' : w.base ≡ 2 * w.size * p.x + w.size = r.0 in let rb : (buddy w).base ≡ 2 * w.size * p.x = r.1 in ⊎_elim
    (λ a1. inl (omega arith))
    (λ a2. ⊎_elim (λ b1. absurd (omega arith)) (λ b2. inr (omega arith)) b)
    a)
    p.lies

-- ---- in the region

pub chunk-of-same : (s t : Space) (c : Chunk) → IsSamePlace s t → IsChunkOf s c → IsChunkOf t c
chunk-of-same s t c p h = record { chunk = h.chunk; from = omega (arith, p.0, h.from); to = omega (arith, p.0, p.1, h.to) }

pub positive : (s : Space) (c : Chunk) → IsChunkOf s c → 0 < c.size
positive s c h = omega (arith, size-least c.size h.chunk.size)

factor-le : (z m x : ℕ) → z * m < z * x + z → z * m ≤ z * x
factor-le z m x l = ⊎_elim (λ (gt : x < m). let up : x + 1 ≤ m = omega arith in absurd (omega (arith, l, mul-le-mul_left z up))) (λ (le : m ≤ x). mul-le-mul_left z le) (cases_lt x m)

factor-lt : (z x n : ℕ) → z * x < z * n → z * x + z ≤ z * n
factor-lt z x n l = ⊎_elim (λ (lt : x < n). let up : x + 1 ≤ n = omega arith in omega (arith, mul-le-mul_left z up)) (λ (ge : n ≤ x). absurd (omega (arith, l, mul-le-mul_left z ge))) (cases_lt x n)

-- a chunk of the region that is less than a unit has its buddy there
pub pair-inside : (s : Space) (w : Chunk) → s.base % 65536 ≡ 0 → IsChunkOf s w → w.size < 65536 → IsChunkOf s (joined w) × IsChunkOf s (buddy w)
pair-inside s w al h small =
    let z : ℕ = 2 * w.size in
    let pos : 0 < w.size = positive s w h in
    let p : Pair w = pair w pos h.chunk.aligned in
    let twice : IsChunkSize (2 * w.size) = size-double w.size h.chunk.size small in
    let low : s.base % (2 * w.size) ≡ 0 = aligned-down s.base (2 * w.size) 65536 twice size-unit (size-most (2 * w.size) twice) al in
    let units : 65536 * s.units % (2 * w.size) ≡ 0 = aligned-down (65536 * s.units) (2 * w.size) 65536 twice size-unit (size-most (2 * w.size) twice) (mul-mod_right 65536 s.units) in
    let high : (s.base + 65536 * s.units) % (2 * w.size) ≡ 0 = sum-aligned s.base (65536 * s.units) (2 * w.size) low units in
    let from : s.base ≡ 2 * w.size * (s.base / (2 * w.size)) = multiple-of s.base (2 * w.size) low in
    let to : s.base + 65536 * s.units ≡ 2 * w.size * ((s.base + 65536 * s.units) / (2 * w.size)) = multiple-of (s.base + 65536 * s.units) (2 * w.size) high in
    let lies : (2 * w.size * p.x ≤ w.base) × (w.base + w.size ≤ 2 * w.size * p.x + 2 * w.size) × (2 * w.size * p.x ≤ (buddy w).base) × ((buddy w).base + w.size ≤ 2 * w.size * p.x + 2 * w.size) = ⊎_elim
    (λ l. (omega (arith, l.0), omega (arith, l.0), omega (arith, l.1), omega (arith, l.1)))
    (λ r. (omega (arith, r.0), omega (arith, r.0), omega (arith, r.1), omega (arith, r.1)))
    p.lies in
    let starts : s.base ≤ 2 * w.size * p.x = omega (arith, from, factor-le (2 * w.size) (s.base / (2 * w.size)) p.x (omega (arith, from, lies.1, h.from, pos))) in
    let ends : 2 * w.size * p.x + 2 * w.size ≤ s.base + 65536 * s.units = omega (arith, to, factor-lt (2 * w.size) p.x ((s.base + 65536 * s.units) / (2 * w.size)) (omega (arith, to, lies.0, h.to, pos))) in (
      record { chunk = record { size = twice; aligned = joined-aligned w pos h.chunk.aligned }; from = omega (arith, starts, p.joined_base); to = omega (arith, ends, p.joined_base) },
      record { chunk = record { size = h.chunk.size; aligned = buddy-aligned w pos h.chunk.aligned }; from = omega (arith, starts, lies.2); to = omega (arith, ends, lies.3) },
    )
