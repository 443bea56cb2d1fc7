-- What the code does at a chunk's flag, and its test for a lower half.
use Rattle.std.proofs.Common.{◌≡◌, ◌↔◌, ℕ, ◌+◌, ◌-◌, ◌*◌, ◌/◌, ◌%◌, ◌^◌, ◌<◌, ◌≤◌, Bool, true, false, eqb, List, [], length, get_or, set, replicate, refl, sym, ap, ◌∙◌, subst, ⊎_elim, arith}
use Rattle.std.specs.Prelude.{bit_and, IsTrue}
use Rattle.std.proofs.Math.Nat.{pow-le-pow_right, mul_assoc, mul_comm, mul-le-mul_left}
use Rattle.std.proofs.lemmas.Bool.{cases_eq, cases_lt, eq-eqb, ne_eqb, eqb-false}
use Rattle.std.proofs.lemmas.List.{get_or_read, get_or-replicate, get_or_past, length-replicate}
use Rattle.std.proofs.lemmas.Nat.{pow_pos, pow-add}
use Rattle.std.proofs.lemmas.Nat.Bits.{and_pow}
use Rattle.dma_buddy.specs.declared.buddies.Chunk.{Chunk}
use Rattle.dma_buddy.specs.Chunks.{IsSizeFor, IsChunk, side}
use Rattle.dma_buddy.specs.Regions.{Space, IsAmong, IsChunkOf, IsBestFor}
use Rattle.dma_buddy.specs.Marks.{listed, flag_at, space_of, IsShaped, IsPlaceOf, Adds, Drops}
use Rattle.dma_buddy.proofs.Sizes.{Half, lower, upper, half, size-least}
use Rattle.dma_buddy.proofs.SizeFlags.{flag-means, adds, drops, place-is, size-pow, none-at-first, best-for, flag-within}

-- ---- lower and upper halves

pub lower-test : (c : Chunk) → IsChunk c → eqb (bit_and c.base c.size) 0 ≡ eqb (side c) 0
lower-test c h =
    let k : ℕ = h.size.0 + 9 in
    let size : c.size ≡ 2 ^ (h.size.0 + 9) = h.size.2 ∙ size-pow h.size.0 in
    let masked : bit_and c.base c.size ≡ side c * 2 ^ (h.size.0 + 9) =
    ap (λ v. bit_and c.base v) size ∙ and_pow c.base (h.size.0 + 9) ∙ ap (λ v. c.base / v % 2 * 2 ^ (h.size.0 + 9)) (sym size) in
    ⊎_elim
    (λ (z : side c ≡ 0).
    eq-eqb (bit_and c.base c.size) 0 (masked ∙ ap (λ v. v * 2 ^ (h.size.0 + 9)) z ∙ omega arith) ∙ sym (eq-eqb (side c) 0 z))
    (λ (nz : side c ≡ 0 → ⊥).
    let one : side c ≡ 1 = omega (arith, nz) in
    let some : bit_and c.base c.size ≡ 2 ^ (h.size.0 + 9) = masked ∙ ap (λ v. v * 2 ^ (h.size.0 + 9)) one ∙ omega arith in
    ne_eqb (bit_and c.base c.size) 0 (λ e. omega (arith, e, some, pow_pos (h.size.0 + 9))) ∙ sym (ne_eqb (side c) 0 nz))
    (cases_eq (side c) 0)

pub upper-room : (c : Chunk) → IsChunk c → eqb (side c) 0 ≡ false → c.size ≤ c.base
upper-room c h e = go (half c (omega (arith, size-least c.size h.size)) h.aligned)
  where
    go : Half c → c.size ≤ c.base
    go (lower x even b) = absurd (eqb-false (side c) 0 e even)
    go (upper x odd b) = omega (arith, b)

-- ---- places

pub placed : (s : Space) (c : Chunk) (z nine : ℕ) → s.base % 65536 ≡ 0 → (h : IsChunkOf s c) → z ≡ h.chunk.size.0 + 9 → nine ≡ 9 → IsPlaceOf s c (z - nine) ((c.base - s.base) / 2 ^ z)
placed s c z nine al h e n =
    let order : h.chunk.size.0 ≡ z - nine = omega (arith, e, n) in
    subst (λ (v : ℕ). IsPlaceOf s c v ((c.base - s.base) / 2 ^ z)) order
    (subst (λ (v : ℕ). IsPlaceOf s c h.chunk.size.0 ((c.base - s.base) / 2 ^ v)) (sym e) (place-is s c al h))

module _ (base units : ℕ) (sets : List (List Bool)) (shaped : IsShaped base units sets) (c : Chunk) (k i : ℕ) (p : IsPlaceOf (space_of base units sets) c k i) (x : List Bool) (read : x ≡ get_or sets k x) where
  at : x ≡ get_or sets k []
  at = get_or_read sets k x (omega (arith, p.order, shaped.count)) read []

  pub flag-free : (b : Bool) → b ≡ get_or x i false → IsTrue b ↔ IsAmong (listed 512 base sets) c
  flag-free b e =
      let same : b ≡ flag_at sets k i = e ∙ ap (λ f. get_or f i false) at in (
        (λ t. subst (λ (z : Chunk). IsAmong (listed 512 base sets) z) (sym p.is) ((flag-means base units sets shaped k i).0 (sym same ∙ t))),
        (λ h. same ∙ (flag-means base units sets shaped k i).1 (subst (λ (z : Chunk). IsAmong (listed 512 base sets) z) p.is h)),
      )

  pub free-flag : IsAmong (listed 512 base sets) c → get_or x i false ≡ true
  free-flag h = (flag-free (get_or x i false) refl).1 h

  pub adds-at : (y : List Bool) → y ≡ set x i true → (IsAmong (listed 512 base sets) c → ⊥) → Adds (space_of base units sets) c (space_of base units (set sets k y))
  adds-at y e absent =
      let new : y ≡ set (get_or sets k []) i true = e ∙ ap (λ f. set f i true) at in
      subst (λ (z : List Bool). Adds (space_of base units sets) c (space_of base units (set sets k z))) (sym new) (adds base units sets shaped c k i p absent)

  pub drops-at : (y : List Bool) → y ≡ set x i false → IsAmong (listed 512 base sets) c → Drops (space_of base units sets) c (space_of base units (set sets k y))
  drops-at y e there =
      let new : y ≡ set (get_or sets k []) i false = e ∙ ap (λ f. set f i false) at in
      subst (λ (z : List Bool). Drops (space_of base units sets) c (space_of base units (set sets k z))) (sym new) (drops base units sets shaped c k i p there)

-- ---- sizes in words of 32 bits

pub size-word : (k : ℕ) → k < 8 → 512 * 2 ^ k % 2 ^ 32 ≡ 512 * 2 ^ k
size-word k l = let le : 2 ^ k ≤ 2 ^ 7 = pow-le-pow_right {n = 2} (omega arith) {i = k} {j = 7} (omega arith) in omega (arith, le)

pub size-for : (len k : ℕ) → k < 8 → len ≤ 512 * 2 ^ k → ((j : ℕ) → j < k → 512 * 2 ^ j < len) → IsSizeFor len (512 * 2 ^ k)
size-for len k kl enough below = record {
  one_of = (k, kl, refl);
  suffices = enough;
  least = λ other size more. ⊎_elim
      (λ (less : size.0 < k). absurd (omega (arith, below size.0 less, size.2, more)))
      (λ (ge : k ≤ size.0). let le : 2 ^ k ≤ 2 ^ size.0 = pow-le-pow_right {n = 2} (omega arith) {i = k} {j = size.0} ge in omega (arith, le, size.2))
      (cases_lt size.0 k);
}

-- the next order is one of the eight
pub order-more : (len k : ℕ) → len ≤ 65536 → k < 8 → 512 * 2 ^ k < len → k + 1 < 8
order-more len k most kl less = ⊎_elim
    (λ (e : k ≡ 7). absurd (omega (arith, less, ap (λ j. 2 ^ j) e)))
    (λ ne. omega arith)
    (cases_eq k 7)

-- ---- the chunk of a flag lies in the region

pub unit-product : (k : ℕ) → k < 8 → 65536 ≡ 512 * 2 ^ k * 2 ^ (7 - k)
unit-product k l =
    let sum : k + (7 - k) ≡ 7 = omega arith in
    ap (λ p. 512 * p) (ap (λ n. 2 ^ n) (sym sum) ∙ pow-add 2 k (7 - k)) ∙ sym (mul_assoc 512 (2 ^ k) (2 ^ (7 - k)))

pub place-room : (base units : ℕ) (sets : List (List Bool)) → IsShaped base units sets → (k i : ℕ) → k < 8 → i < length (get_or sets k []) → base + 512 * 2 ^ k * i + 512 * 2 ^ k ≤ base + 65536 * units
place-room base units sets h k i kl il =
    let count : i + 1 ≤ units * 2 ^ (7 - k) = omega (arith, h.sizes k kl, il) in
    let room : 65536 * units ≡ 512 * 2 ^ k * (units * 2 ^ (7 - k)) = ap (λ v. v * units) (unit-product k kl) ∙ mul_assoc (512 * 2 ^ k) (2 ^ (7 - k)) units ∙ ap (λ v. 512 * 2 ^ k * v) (mul_comm (2 ^ (7 - k)) units) in
    omega (arith, room, mul-le-mul_left (512 * 2 ^ k) count)

-- ---- the sets of the opening

pub count-small : (base units k : ℕ) → base + 65536 * units < 2 ^ 32 → k ≤ 7 → units * 2 ^ k ≤ 2 ^ 24
count-small base units k fits l =
    let le : 2 ^ k ≤ 2 ^ 7 = pow-le-pow_right {n = 2} (omega arith) {i = k} {j = 7} l in
    omega (arith, mul-le-mul_left units le)

-- ---- the best chunk

module _ (base units : ℕ) (sets : List (List Bool)) (shaped : IsShaped base units sets) (k i : ℕ) (kl : k < 8) (x : List Bool) (read : x ≡ get_or sets k x) (hit : get_or x i false ≡ true) where
  here : x ≡ get_or sets k []
  here = get_or_read sets k x (omega (arith, kl, shaped.count)) read []

  on : flag_at sets k i ≡ true
  on = ap (λ f. get_or f i false) (sym here) ∙ hit

  room : base + 512 * 2 ^ k * i + 512 * 2 ^ k ≤ base + 65536 * units
  room = place-room base units sets shaped k i kl (flag-within sets k i on).1

  pub index-fits : i < 2 ^ 32
  index-fits = omega (arith, (flag-within sets k i on).1, shaped.sizes k kl, count-small base units (7 - k) shaped.fits (omega arith))

  pub product-fits : 512 * 2 ^ k % 2 ^ 32 * i < 2 ^ 32
  product-fits = let e : 512 * 2 ^ k % 2 ^ 32 * i ≡ 512 * 2 ^ k * i = ap (λ v. v * i) (size-word k kl) in omega (arith, e, room, shaped.fits)

  pub sum-fits : base + 512 * 2 ^ k % 2 ^ 32 * i < 2 ^ 32
  sum-fits = let e : 512 * 2 ^ k % 2 ^ 32 * i ≡ 512 * 2 ^ k * i = ap (λ v. v * i) (size-word k kl) in omega (arith, e, room, shaped.fits, pow_pos k)

  pub best-at : (len first : ℕ) → IsSizeFor len (512 * 2 ^ first) → first ≤ k → ((j : ℕ) → first ≤ j → j < k → (m : ℕ) → flag_at sets j m ≡ false) → ((m : ℕ) → m < i → get_or x m false ≡ false)
      → IsBestFor (space_of base units sets) len (record { base = base + 512 * 2 ^ k % 2 ^ 32 * i; size = 512 * 2 ^ k % 2 ^ 32 })
  best-at len first for le none below =
      subst (λ (v : ℕ). IsBestFor (space_of base units sets) len (record { base = base + v * i; size = v })) (sym (size-word k kl))
      (best-for base units sets shaped len first k i for le kl none on (λ m l. ap (λ f. get_or f m false) (sym here) ∙ below m l))

none-set : (n i : ℕ) → get_or (replicate n false) i false ≡ false
none-set n i = ⊎_elim
    (λ l. get_or-replicate n i false false l)
    (λ ge. get_or_past (replicate n false) i false (omega (arith, length-replicate n false)))
    (cases_lt i n)

module _ (base units : ℕ) (sets : List (List Bool)) (aligned : base % 65536 ≡ 0) (fits : base + 65536 * units < 2 ^ 32) (count : length sets ≡ 8) (each : (k : ℕ) → k < 8 → get_or sets k [] ≡ replicate (units * 2 ^ (7 - k)) false) where
  pub shaped-at-first : IsShaped base units sets
  shaped-at-first = record {
    aligned = aligned;
    fits = fits;
    count = count;
    sizes = λ k l. ap length (each k l) ∙ length-replicate (units * 2 ^ (7 - k)) false;
  }

  no-flag : (k i : ℕ) → flag_at sets k i ≡ false
  no-flag k i = ⊎_elim
      (λ l. ap (λ f. get_or f i false) (each k l) ∙ none-set (units * 2 ^ (7 - k)) i)
      (λ ge. ap (λ f. get_or f i false) (get_or_past sets k [] (omega (arith, count))))
      (cases_lt k 8)

  pub empty-at-first : listed 512 base sets ≡ []
  empty-at-first = none-at-first 512 base sets no-flag
