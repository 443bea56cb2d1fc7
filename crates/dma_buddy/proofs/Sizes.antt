-- The sizes of chunks, and numbers of aligned chunks.
use Rattle.std.proofs.Common.{◌≡◌, ℕ, suc, ◌+◌, ◌-◌, ◌*◌, ◌/◌, ◌%◌, ◌^◌, ◌<◌, ◌≤◌, ◌⊎◌, cond, refl, sym, ap, ◌∙◌, inl, inr, ⊎_elim, arith}
use Rattle.std.proofs.Math.Nat.{pow-le-pow_right, pow-suc, mul-mod_right, mul-add-mod_self_left, mul_assoc, mul_comm, mul-div_cancel_left}
use Rattle.std.proofs.lemmas.Bool.{cases_eq, cases_lt, cases_order, eq-eqb, ne_eqb}
use Rattle.std.proofs.lemmas.Nat.{pow_pos, pow-add, div-add-mod'}
use Rattle.dma_buddy.specs.declared.buddies.Chunk.{Chunk}
use Rattle.dma_buddy.specs.Chunks.{IsChunkSize, side, buddy, joined}

pow-below : (j k : ℕ) → j < k → 2 * 2 ^ j ≤ 2 ^ k
pow-below j k l = let le : 2 ^ suc j ≤ 2 ^ k = pow-le-pow_right {n = 2} (omega arith) {i = suc j} {j = k} (omega arith) in omega (arith, pow-suc 2 j, le)

pow-order : (j k : ℕ) → 2 ^ j < 2 ^ k → j < k
pow-order j k l = ⊎_elim (λ h. h) (λ h. absurd (let le : 2 ^ k ≤ 2 ^ j = pow-le-pow_right {n = 2} (omega arith) {i = k} {j = j} h in omega (arith, le))) (cases_lt j k)

pub pow-same : (j k : ℕ) → 2 ^ j ≡ 2 ^ k → j ≡ k
pow-same j k e = ⊎_elim (λ h. h) (λ h. absurd (⊎_elim
    (λ l. omega (arith, e, pow-below j k l, pow_pos j))
    (λ l. omega (arith, e, pow-below k j l, pow_pos k)) h)) (cases_order j k)

pub size-least : (s : ℕ) → IsChunkSize s → 512 ≤ s
size-least s h = omega (arith, h.2, pow_pos h.0)

pub size-most : (s : ℕ) → IsChunkSize s → s ≤ 65536
size-most s h = let le : 2 ^ h.0 ≤ 2 ^ 7 = pow-le-pow_right {n = 2} (omega arith) {i = h.0} {j = 7} (omega (arith, h.1)) in omega (arith, h.2, le)

pub size-next : (s t : ℕ) → IsChunkSize s → IsChunkSize t → s < t → 2 * s ≤ t
size-next s t g h l =
    let less : g.0 < h.0 = pow-order g.0 h.0 (omega (arith, g.2, h.2)) in
    omega (arith, g.2, h.2, pow-below g.0 h.0 less)

pub size-double : (s : ℕ) → IsChunkSize s → s < 65536 → IsChunkSize (2 * s)
size-double s h l =
    let less : h.0 < 7 = pow-order h.0 7 (omega (arith, h.2)) in
    (suc h.0, omega arith, omega (arith, h.2, pow-suc 2 h.0))

pub size-unit : IsChunkSize 65536
size-unit = (7, omega arith, refl)

-- t is a multiple of s
pub size-divides : (s t : ℕ) → IsChunkSize s → IsChunkSize t → s ≤ t → (m : ℕ) × (t ≡ s * m)
size-divides s t g h l =
    let le : g.0 ≤ h.0 = ⊎_elim (λ (below : h.0 < g.0). absurd (omega (arith, g.2, h.2, pow-below h.0 g.0 below, pow_pos h.0))) (λ (ok : g.0 ≤ h.0). ok) (cases_lt h.0 g.0) in
    let sum : g.0 + (h.0 - g.0) ≡ h.0 = omega arith in (
      2 ^ (h.0 - g.0),
      h.2 ∙ ap (λ p. 512 * p) (ap (λ k. 2 ^ k) (sym sum) ∙ pow-add 2 g.0 (h.0 - g.0))
          ∙ sym (mul_assoc 512 (2 ^ g.0) (2 ^ (h.0 - g.0))) ∙ ap (λ p. p * 2 ^ (h.0 - g.0)) (sym g.2),
    )

-- ---- the two halves

-- An aligned chunk is the lower or the upper half of an aligned chunk of twice its size.
pub data Half (c : Chunk) : Type 0 where
  lower : (x : ℕ) → side c ≡ 0 → c.base ≡ 2 * c.size * x → Half c
  upper : (x : ℕ) → side c ≡ 1 → c.base ≡ 2 * c.size * x + c.size → Half c

quotient : (s q : ℕ) → 0 < s → s * q / s ≡ q
quotient s q pos = mul-div_cancel_left q {n = s} pos

pub half : (c : Chunk) → 0 < c.size → c.base % c.size ≡ 0 → Half c
half c pos aligned =
    let number : c.base ≡ c.size * (c.base / c.size) = omega (arith, div-add-mod' c.base c.size, mul_comm (c.base / c.size) c.size) in
    ⊎_elim
    (λ (even : side c ≡ 0).
    let twice : c.base / c.size ≡ 2 * (c.base / c.size / 2) = omega arith in
    lower (c.base / c.size / 2) even (number ∙ ap (λ q. c.size * q) twice ∙ omega (arith, mul_assoc 2 c.size (c.base / c.size / 2), mul_assoc c.size 2 (c.base / c.size / 2), mul_comm c.size 2)))
    (λ odd.
    let one : side c ≡ 1 = omega arith in
    let twice : c.base / c.size ≡ 2 * (c.base / c.size / 2) + 1 = omega arith in
    upper (c.base / c.size / 2) one (number ∙ ap (λ q. c.size * q) twice ∙ omega (arith, mul_assoc 2 c.size (c.base / c.size / 2), mul_assoc c.size 2 (c.base / c.size / 2), mul_comm c.size 2)))
    (cases_eq (side c) 0)

side-lower : (c : Chunk) (x : ℕ) → 0 < c.size → c.base ≡ 2 * c.size * x → side c ≡ 0
side-lower c x pos e =
    let number : c.base ≡ c.size * (2 * x) = omega (arith, e, mul_assoc 2 c.size x, mul_assoc c.size 2 x, mul_comm c.size 2) in
    let half : c.base / c.size ≡ 2 * x = ap (λ b. b / c.size) number ∙ quotient c.size (2 * x) pos in
    omega (arith, half)

side-upper : (c : Chunk) (x : ℕ) → 0 < c.size → c.base ≡ 2 * c.size * x + c.size → side c ≡ 1
side-upper c x pos e =
    let number : c.base ≡ c.size * (2 * x + 1) = omega (arith, e, mul_assoc 2 c.size x, mul_assoc c.size 2 x, mul_comm c.size 2) in
    let half : c.base / c.size ≡ 2 * x + 1 = ap (λ b. b / c.size) number ∙ quotient c.size (2 * x + 1) pos in
    omega (arith, half)

buddy-at-0 : (c : Chunk) → side c ≡ 0 → (buddy c).base ≡ c.base + c.size
buddy-at-0 c e = ap (λ b. cond b (c.base + c.size) (c.base - c.size)) (eq-eqb (side c) 0 e)

buddy-at-1 : (c : Chunk) → side c ≡ 1 → (buddy c).base ≡ c.base - c.size
buddy-at-1 c e = ap (λ b. cond b (c.base + c.size) (c.base - c.size)) (ne_eqb (side c) 0 (λ z. omega (arith, e, z)))

joined-at-0 : (c : Chunk) → side c ≡ 0 → (joined c).base ≡ c.base
joined-at-0 c e = ap (λ b. cond b c.base (c.base - c.size)) (eq-eqb (side c) 0 e)

joined-at-1 : (c : Chunk) → side c ≡ 1 → (joined c).base ≡ c.base - c.size
joined-at-1 c e = ap (λ b. cond b c.base (c.base - c.size)) (ne_eqb (side c) 0 (λ z. omega (arith, e, z)))

pub same-chunk : (c d : Chunk) → c.base ≡ d.base → c.size ≡ d.size → c ≡ d
same-chunk c d b s =
    ap (λ (x : ℕ). let r : Chunk = record { base = x; size = c.size } in r) b
    ∙ ap (λ (y : ℕ). let r : Chunk = record { base = d.base; size = y } in r) s

-- Where two buddies lie.
pub record Pair (c : Chunk) : Type 0 where
  pub x : ℕ
  pub joined_base : (joined c).base ≡ 2 * c.size * x
  pub lies : ((c.base ≡ 2 * c.size * x) × ((buddy c).base ≡ 2 * c.size * x + c.size)) ⊎ ((c.base ≡ 2 * c.size * x + c.size) × ((buddy c).base ≡ 2 * c.size * x))
  pub again : (buddy (buddy c)).base ≡ c.base

pub pair : (c : Chunk) → 0 < c.size → c.base % c.size ≡ 0 → Pair c
pair c pos aligned = go (half c pos aligned)
  where
    go : Half c → Pair c
    go (lower x even e) =
        let b : (buddy c).base ≡ 2 * c.size * x + c.size = omega (arith, buddy-at-0 c even, e) in
        let odd : side (buddy c) ≡ 1 = side-upper (buddy c) x pos b in
        record { x = x; joined_base = joined-at-0 c even ∙ e; lies = inl (e, b); again = omega (arith, buddy-at-1 (buddy c) odd, b, e) }
    go (upper x odd e) =
        let b : (buddy c).base ≡ 2 * c.size * x = omega (arith, buddy-at-1 c odd, e) in
        let even : side (buddy c) ≡ 0 = side-lower (buddy c) x pos b in
        record { x = x; joined_base = omega (arith, joined-at-1 c odd, e); lies = inr (e, b); again = omega (arith, buddy-at-0 (buddy c) even, b, e) }

pub buddy-of-buddy : (c : Chunk) → 0 < c.size → c.base % c.size ≡ 0 → buddy (buddy c) ≡ c
buddy-of-buddy c pos aligned = same-chunk (buddy (buddy c)) c (pair c pos aligned).again refl

pub joined-aligned : (c : Chunk) → 0 < c.size → c.base % c.size ≡ 0 → (joined c).base % (joined c).size ≡ 0
joined-aligned c pos aligned =
    let p = pair c pos aligned in
    ap (λ b. b % (2 * c.size)) p.joined_base ∙ mul-mod_right (2 * c.size) p.x

-- The lower half of a chunk that is split: its buddy is the upper half, and together they are the chunk.
pub lower-half : (c : Chunk) (y : ℕ) → 0 < c.size → c.base ≡ 2 * c.size * y → ((buddy c).base ≡ c.base + c.size) × ((joined c).base ≡ c.base)
lower-half c y pos e = let even : side c ≡ 0 = side-lower c y pos e in (buddy-at-0 c even, joined-at-0 c even)

pub upper-half : (c : Chunk) (y : ℕ) → 0 < c.size → c.base ≡ 2 * c.size * y + c.size → (buddy c).base ≡ 2 * c.size * y
upper-half c y pos e = let odd : side c ≡ 1 = side-upper c y pos e in omega (arith, buddy-at-1 c odd, e)

-- A number aligned to a size is aligned to each smaller one.
pub aligned-down : (a s t : ℕ) → IsChunkSize s → IsChunkSize t → s ≤ t → a % t ≡ 0 → a % s ≡ 0
aligned-down a s t g h l e =
    let m : (m : ℕ) × (t ≡ s * m) = size-divides s t g h l in
    let number : a ≡ t * (a / t) = omega (arith, div-add-mod' a t, mul_comm (a / t) t) in
    let multiple : a ≡ s * (m.0 * (a / t)) = number ∙ ap (λ v. v * (a / t)) m.1 ∙ mul_assoc s m.0 (a / t) in
    ap (λ v. v % s) multiple ∙ mul-mod_right s (m.0 * (a / t))

-- What is aligned to a size, as a product.
pub multiple-of : (a s : ℕ) → a % s ≡ 0 → a ≡ s * (a / s)
multiple-of a s e = omega (arith, div-add-mod' a s, mul_comm (a / s) s, e)

pub sum-aligned : (a b s : ℕ) → a % s ≡ 0 → b % s ≡ 0 → (a + b) % s ≡ 0
sum-aligned a b s ea eb = ap (λ v. (v + b) % s) (multiple-of a s ea) ∙ mul-add-mod_self_left s (a / s) b ∙ eb

pub buddy-aligned : (c : Chunk) → 0 < c.size → c.base % c.size ≡ 0 → (buddy c).base % c.size ≡ 0
buddy-aligned c pos aligned =
    let p : Pair c = pair c pos aligned in
    ⊎_elim
    (λ l. let number : (buddy c).base ≡ c.size * (2 * p.x + 1) = omega (arith, l.1) in ap (λ b. b % c.size) number ∙ mul-mod_right c.size (2 * p.x + 1))
    (λ r. let number : (buddy c).base ≡ c.size * (2 * p.x) = omega (arith, r.1) in ap (λ b. b % c.size) number ∙ mul-mod_right c.size (2 * p.x))
    p.lies
