-- Flags by size as a set of chunks.
use Rattle.std.proofs.Common.{◌≡◌, ◌↔◌, ℕ, zero, suc, ◌+◌, ◌-◌, ◌*◌, ◌/◌, ◌%◌, ◌^◌, ◌<◌, ◌≤◌, Bool, true, false, List, [], ◌∷◌, ◌++◌, length, get_or, set, refl, sym, ap, ◌∙◌, subst, inl, inr, ⊎_elim, arith, get_or-set_same, get_or-set_other, length-set}
use Rattle.std.specs.List.{sum_by}
use Rattle.std.specs.Int.{bit_at, w32, trailing_zeros}
use Rattle.std.proofs.Math.Nat.{pow-suc, pow-le-pow_right, mul_comm, mul_assoc, mul-add-mod_self_left, mul-le-mul_left}
use Rattle.std.proofs.lemmas.Bool.{cases_eq, cases_lt, false≢true, false_from_ne_true}
use Rattle.std.proofs.lemmas.List.{get_or_past}
use Rattle.std.proofs.lemmas.List.Sums.{sum_by-cons, sum_by-append}
use Rattle.std.proofs.lemmas.Nat.{pow_pos, pow-add}
use Rattle.std.proofs.lemmas.Nat.Bits.{bit_at-trailing_zeros, bit_at-pow_other}
use Rattle.dma_buddy.specs.declared.buddies.Chunk.{Chunk}
use Rattle.dma_buddy.specs.Chunks.{IsChunkSize, IsSizeFor}
use Rattle.dma_buddy.specs.Regions.{Space, IsAmong, IsListed, IsChunkOf, IsNoneFor, IsBestFor}
use Rattle.dma_buddy.specs.Marks.{marked, listed, chunk_at, flag_at, space_of, IsShaped, IsPlaceOf, Adds, Drops}
use Rattle.dma_buddy.proofs.Sizes.{same-chunk, pow-same, size-most, size-unit, aligned-down, multiple-of}
use Rattle.dma_buddy.proofs.Sets.{among-left, among-right, among-append, listed-append, none-among}
use Rattle.dma_buddy.proofs.FreeBytes.{multiples}

abbrev total : List Chunk → ℕ
total xs = sum_by (λ c. c.size) xs

total-cons : (x : Chunk) (xs : List Chunk) → total (x ∷ xs) ≡ x.size + total xs
total-cons x xs = sum_by-cons (λ (c : Chunk). c.size) x xs

total-append : (xs ys : List Chunk) → total (xs ++ ys) ≡ total xs + total ys
total-append xs ys = sum_by-append (λ (c : Chunk). c.size) xs ys

-- ---- one size

marked-is : (s a : ℕ) (bs : List Bool) (c : Chunk) → IsAmong (marked s a bs) c → (i : ℕ) × (c.base ≡ a + s * i) × (c.size ≡ s) × (get_or bs i false ≡ true)
marked-is s a [] c h = absurd h
marked-is s a (true ∷ bs) c h = ⊎_elim
    (λ e. let base : c.base ≡ a = ap (λ (x : Chunk). x.base) e in (0, omega (arith, base), ap (λ (x : Chunk). x.size) e, refl))
    (λ t. let r : (i : ℕ) × (c.base ≡ a + s + s * i) × (c.size ≡ s) × (get_or bs i false ≡ true) = marked-is s (a + s) bs c t in (suc r.0, omega (arith, r.1), r.2, r.3))
    h
marked-is s a (false ∷ bs) c h =
    let r : (i : ℕ) × (c.base ≡ a + s + s * i) × (c.size ≡ s) × (get_or bs i false ≡ true) = marked-is s (a + s) bs c h in (suc r.0, omega (arith, r.1), r.2, r.3)

abbrev chunk : ℕ → ℕ → Chunk
chunk base size = record { base = base; size = size }

moved : (xs : List Chunk) (a b s : ℕ) → a ≡ b → IsAmong xs (chunk a s) → IsAmong xs (chunk b s)
moved xs a b s e h = subst (λ (x : ℕ). IsAmong xs (chunk x s)) e h

is-marked : (s a : ℕ) (bs : List Bool) (i : ℕ) → get_or bs i false ≡ true → IsAmong (marked s a bs) (chunk (a + s * i) s)
is-marked s a [] i e = absurd (false≢true e)
is-marked s a (true ∷ bs) zero e = inl (same-chunk (chunk (a + s * zero) s) (chunk a s) (omega arith) refl)
is-marked s a (true ∷ bs) (suc i) e = inr (moved (marked s (a + s) bs) (a + s + s * i) (a + s * suc i) s (omega arith) (is-marked s (a + s) bs i e))
is-marked s a (false ∷ bs) zero e = absurd (false≢true e)
is-marked s a (false ∷ bs) (suc i) e = moved (marked s (a + s) bs) (a + s + s * i) (a + s * suc i) s (omega arith) (is-marked s (a + s) bs i e)

marked-total-set : (s a : ℕ) (bs : List Bool) (i : ℕ) → i < length bs → get_or bs i false ≡ false → total (marked s a (set bs i true)) ≡ total (marked s a bs) + s
marked-total-set s a [] i l e = absurd (omega arith)
marked-total-set s a (true ∷ bs) zero l e = absurd (false≢true (sym e))
marked-total-set s a (false ∷ bs) zero l e = omega (arith, total-cons (chunk a s) (marked s (a + s) bs))
marked-total-set s a (true ∷ bs) (suc i) l e = omega (arith, total-cons (chunk a s) (marked s (a + s) (set bs i true)), total-cons (chunk a s) (marked s (a + s) bs), marked-total-set s (a + s) bs i (omega arith) e)
marked-total-set s a (false ∷ bs) (suc i) l e = marked-total-set s (a + s) bs i (omega arith) e

marked-total-clear : (s a : ℕ) (bs : List Bool) (i : ℕ) → get_or bs i false ≡ true → total (marked s a (set bs i false)) + s ≡ total (marked s a bs)
marked-total-clear s a [] i e = absurd (false≢true e)
marked-total-clear s a (true ∷ bs) zero e = omega (arith, total-cons (chunk a s) (marked s (a + s) bs))
marked-total-clear s a (false ∷ bs) zero e = absurd (false≢true e)
marked-total-clear s a (true ∷ bs) (suc i) e = omega (arith, total-cons (chunk a s) (marked s (a + s) (set bs i false)), total-cons (chunk a s) (marked s (a + s) bs), marked-total-clear s (a + s) bs i e)
marked-total-clear s a (false ∷ bs) (suc i) e = marked-total-clear s (a + s) bs i e

marked-listed : (s a : ℕ) (bs : List Bool) → 0 < s → IsListed (marked s a bs)
marked-listed s a [] p = tt
marked-listed s a (true ∷ bs) p = (
  (λ c i. let r : (i : ℕ) × (c.base ≡ a + s + s * i) × (c.size ≡ s) × (get_or bs i false ≡ true) = marked-is s (a + s) bs c i in inr (sym r.2, omega (arith, r.1))),
  marked-listed s (a + s) bs p,
)
marked-listed s a (false ∷ bs) p = marked-listed s (a + s) bs p

-- ---- all sizes

double : (s k : ℕ) → 2 * s * 2 ^ k ≡ s * 2 ^ suc k
double s k = omega arith ∙ ap (λ p. s * p) (sym (pow-suc 2 k))

listed-is : (s a : ℕ) (sets : List (List Bool)) (c : Chunk) → IsAmong (listed s a sets) c → (k : ℕ) × (i : ℕ) × (c.base ≡ a + s * 2 ^ k * i) × (c.size ≡ s * 2 ^ k) × (flag_at sets k i ≡ true)
listed-is s a [] c h = absurd h
listed-is s a (f ∷ rest) c h = ⊎_elim
    (λ m. let r : (i : ℕ) × (c.base ≡ a + s * i) × (c.size ≡ s) × (get_or f i false ≡ true) = marked-is s a f c m in (0, r.0, omega (arith, r.1), omega (arith, r.2), r.3))
    (λ t.
    let r : (k : ℕ) × (i : ℕ) × (c.base ≡ a + 2 * s * 2 ^ k * i) × (c.size ≡ 2 * s * 2 ^ k) × (flag_at rest k i ≡ true) = listed-is (2 * s) a rest c t in
    (suc r.0, r.1, r.2 ∙ ap (λ z. a + z * r.1) (double s r.0), r.3 ∙ double s r.0, r.4))
    (among-append (marked s a f) (listed (2 * s) a rest) c h)

is-listed : (s a : ℕ) (sets : List (List Bool)) (k i : ℕ) → flag_at sets k i ≡ true → IsAmong (listed s a sets) (chunk (a + s * 2 ^ k * i) (s * 2 ^ k))
is-listed s a [] k i e = absurd (false≢true e)
is-listed s a (f ∷ rest) zero i e =
    among-left (marked s a f) (listed (2 * s) a rest) (chunk (a + s * 2 ^ zero * i) (s * 2 ^ zero))
    (subst (λ (z : Chunk). IsAmong (marked s a f) z) (same-chunk (chunk (a + s * i) s) (chunk (a + s * 2 ^ zero * i) (s * 2 ^ zero)) (omega arith) (omega arith)) (is-marked s a f i e))
is-listed s a (f ∷ rest) (suc k) i e =
    among-right (marked s a f) (listed (2 * s) a rest) (chunk (a + s * 2 ^ suc k * i) (s * 2 ^ suc k))
    (subst (λ (z : Chunk). IsAmong (listed (2 * s) a rest) z) (ap (λ z. chunk (a + z * i) z) (double s k)) (is-listed (2 * s) a rest k i e))

listed-total-set : (s a : ℕ) (sets : List (List Bool)) (k i : ℕ) → k < length sets → i < length (get_or sets k []) → flag_at sets k i ≡ false → total (listed s a (set sets k (set (get_or sets k []) i true))) ≡ total (listed s a sets) + s * 2 ^ k
listed-total-set s a [] k i kl il e = absurd (omega arith)
listed-total-set s a (f ∷ rest) zero i kl il e = omega (arith, total-append (marked s a (set f i true)) (listed (2 * s) a rest), total-append (marked s a f) (listed (2 * s) a rest), marked-total-set s a f i il e)
listed-total-set s a (f ∷ rest) (suc k) i kl il e = omega (arith, total-append (marked s a f) (listed (2 * s) a (set rest k (set (get_or rest k []) i true))), total-append (marked s a f) (listed (2 * s) a rest), listed-total-set (2 * s) a rest k i (omega arith) il e, double s k)

listed-total-clear : (s a : ℕ) (sets : List (List Bool)) (k i : ℕ) → flag_at sets k i ≡ true → total (listed s a (set sets k (set (get_or sets k []) i false))) + s * 2 ^ k ≡ total (listed s a sets)
listed-total-clear s a [] k i e = absurd (false≢true e)
listed-total-clear s a (f ∷ rest) zero i e = omega (arith, total-append (marked s a (set f i false)) (listed (2 * s) a rest), total-append (marked s a f) (listed (2 * s) a rest), marked-total-clear s a f i e)
listed-total-clear s a (f ∷ rest) (suc k) i e = omega (arith, total-append (marked s a f) (listed (2 * s) a (set rest k (set (get_or rest k []) i false))), total-append (marked s a f) (listed (2 * s) a rest), listed-total-clear (2 * s) a rest k i e, double s k)

listed-from : (s a : ℕ) (sets : List (List Bool)) (c : Chunk) → IsAmong (listed s a sets) c → s ≤ c.size
listed-from s a [] c h = absurd h
listed-from s a (f ∷ rest) c h = ⊎_elim
    (λ m. omega (arith, (marked-is s a f c m).2))
    (λ t. omega (arith, listed-from (2 * s) a rest c t))
    (among-append (marked s a f) (listed (2 * s) a rest) c h)

pub listed-listed : (s a : ℕ) (sets : List (List Bool)) → 0 < s → IsListed (listed s a sets)
listed-listed s a [] p = tt
listed-listed s a (f ∷ rest) p = listed-append (marked s a f) (listed (2 * s) a rest) (marked-listed s a f p) (listed-listed (2 * s) a rest (omega arith))
    (λ c d i j. inl (omega (arith, (marked-is s a f c i).2, listed-from (2 * s) a rest d j)))

-- ---- places

pub flag-within : (sets : List (List Bool)) (k i : ℕ) → flag_at sets k i ≡ true → (k < length sets) × (i < length (get_or sets k []))
flag-within sets k i e = (
  ⊎_elim (λ l. l) (λ ge. absurd (false≢true (sym (ap (λ f. get_or f i false) (get_or_past sets k [] ge)) ∙ e))) (cases_lt k (length sets)),
  ⊎_elim (λ l. l) (λ ge. absurd (false≢true (sym (get_or_past (get_or sets k []) i false ge) ∙ e))) (cases_lt i (length (get_or sets k []))),
)

flag-same : (sets : List (List Bool)) (k i : ℕ) (b : Bool) → k < length sets → i < length (get_or sets k []) → flag_at (set sets k (set (get_or sets k []) i b)) k i ≡ b
flag-same sets k i b kl il = ap (λ f. get_or f i false) (get_or-set_same sets k (set (get_or sets k []) i b) [] kl) ∙ get_or-set_same (get_or sets k []) i b false il

flag-other : (sets : List (List Bool)) (k i : ℕ) (b : Bool) (j m : ℕ) → k < length sets → ((j ≡ k) → (m ≡ i) → ⊥) → flag_at (set sets k (set (get_or sets k []) i b)) j m ≡ flag_at sets j m
flag-other sets k i b j m kl ne = ⊎_elim
    (λ (same : j ≡ k).
    ap (λ n. flag_at (set sets k (set (get_or sets k []) i b)) n m) same
    ∙ ap (λ f. get_or f m false) (get_or-set_same sets k (set (get_or sets k []) i b) [] kl)
    ∙ get_or-set_other (get_or sets k []) i m b false (ne same)
    ∙ ap (λ n. flag_at sets n m) (sym same))
    (λ other. ap (λ f. get_or f m false) (get_or-set_other sets k j (set (get_or sets k []) i b) [] other))
    (cases_eq j k)

same-place : (a k i j m : ℕ) → chunk_at a k i ≡ chunk_at a j m → (k ≡ j) × (i ≡ m)
same-place a k i j m e =
    let size : 512 * 2 ^ k ≡ 512 * 2 ^ j = ap (λ (x : Chunk). x.size) e in
    let order : k ≡ j = pow-same k j (omega arith) in
    let base : a + 512 * 2 ^ k * i ≡ a + 512 * 2 ^ j * m = ap (λ (x : Chunk). x.base) e in
    let there : 512 * 2 ^ k * i ≡ 512 * 2 ^ k * m = omega (arith, base) ∙ ap (λ z. z * m) (sym size) in
    (order, multiples (512 * 2 ^ k) i m (omega (arith, there)) (omega (arith, there, pow_pos k)))

module _ (base units : ℕ) (sets : List (List Bool)) (shaped : IsShaped base units sets) where
  pub place-of : (c : Chunk) → IsAmong (listed 512 base sets) c → (k : ℕ) × (i : ℕ) × (c ≡ chunk_at base k i) × (flag_at sets k i ≡ true) × (k < 8)
  place-of c h =
      let r : (k : ℕ) × (i : ℕ) × (c.base ≡ base + 512 * 2 ^ k * i) × (c.size ≡ 512 * 2 ^ k) × (flag_at sets k i ≡ true) = listed-is 512 base sets c h in
      (r.0, r.1, same-chunk c (chunk_at base r.0 r.1) r.2 r.3, r.4, omega (arith, (flag-within sets r.0 r.1 r.4).0, shaped.count))

  pub flag-means : (k i : ℕ) → (flag_at sets k i ≡ true) ↔ IsAmong (listed 512 base sets) (chunk_at base k i)
  flag-means k i = (
    is-listed 512 base sets k i,
    (λ h.
        let r : (j : ℕ) × (m : ℕ) × (chunk_at base k i ≡ chunk_at base j m) × (flag_at sets j m ≡ true) × (j < 8) = place-of (chunk_at base k i) h in
        let p : (k ≡ r.0) × (i ≡ r.1) = same-place base k i r.0 r.1 r.2 in
        ap (λ n. flag_at sets n i) p.0 ∙ ap (λ n. flag_at sets r.0 n) p.1 ∙ r.3),
  )

  abbrev put : ℕ → ℕ → Bool → List (List Bool)
  put k i b = set sets k (set (get_or sets k []) i b)

  pub shaped-put : (k i : ℕ) (b : Bool) → k < 8 → IsShaped base units (put k i b)
  shaped-put k i b kl = record {
    aligned = shaped.aligned;
    fits = shaped.fits;
    count = length-set sets k (set (get_or sets k []) i b) ∙ shaped.count;
    sizes = λ j jl. ⊎_elim
        (λ (same : j ≡ k).
        ap (λ n. length (get_or (put k i b) n [])) same
        ∙ ap length (get_or-set_same sets k (set (get_or sets k []) i b) [] (omega (arith, shaped.count)))
        ∙ length-set (get_or sets k []) i b
        ∙ ap (λ n. length (get_or sets n [])) (sym same)
        ∙ shaped.sizes j jl)
        (λ other. ap length (get_or-set_other sets k j (set (get_or sets k []) i b) [] other) ∙ shaped.sizes j jl)
        (cases_eq j k);
  }

  pub adds : (c : Chunk) (k i : ℕ) → IsPlaceOf (space_of base units sets) c k i → (IsAmong (listed 512 base sets) c → ⊥) → Adds (space_of base units sets) c (space_of base units (put k i true))
  adds c k i p absent =
      let kl : k < length sets = omega (arith, p.order, shaped.count) in
      let il : i < length (get_or sets k []) = omega (arith, p.index, shaped.sizes k p.order) in
      let off : flag_at sets k i ≡ false = false_from_ne_true _ (λ t. absent (subst (λ (z : Chunk). IsAmong (listed 512 base sets) z) (sym p.is) ((flag-means k i).0 t))) in
      let later : IsShaped base units (put k i true) = shaped-put k i true p.order in
      record {
        place = (refl, refl);
        free = λ q. (
          (λ h.
              let r : (j : ℕ) × (m : ℕ) × (q.base ≡ base + 512 * 2 ^ j * m) × (q.size ≡ 512 * 2 ^ j) × (flag_at (put k i true) j m ≡ true) = listed-is 512 base (put k i true) q h in
              let at : q ≡ chunk_at base r.0 r.1 = same-chunk q (chunk_at base r.0 r.1) r.2 r.3 in
              ⊎_elim
              (λ (ek : r.0 ≡ k). ⊎_elim
              (λ (ei : r.1 ≡ i). inr (at ∙ ap (λ n. chunk_at base n r.1) ek ∙ ap (λ n. chunk_at base k n) ei ∙ sym p.is))
              (λ ni. inl (subst (λ (z : Chunk). IsAmong (listed 512 base sets) z) (sym at) (is-listed 512 base sets r.0 r.1 (sym (flag-other sets k i true r.0 r.1 kl (λ _. ni)) ∙ r.4))))
              (cases_eq r.1 i))
              (λ nk. inl (subst (λ (z : Chunk). IsAmong (listed 512 base sets) z) (sym at) (is-listed 512 base sets r.0 r.1 (sym (flag-other sets k i true r.0 r.1 kl (λ e _. nk e)) ∙ r.4))))
              (cases_eq r.0 k)),
          (λ h. ⊎_elim
              (λ old.
              let r : (j : ℕ) × (m : ℕ) × (q ≡ chunk_at base j m) × (flag_at sets j m ≡ true) × (j < 8) = place-of q old in
              subst (λ (z : Chunk). IsAmong (listed 512 base (put k i true)) z) (sym r.2)
              (is-listed 512 base (put k i true) r.0 r.1 (⊎_elim
              (λ (ek : r.0 ≡ k). ⊎_elim
              (λ (ei : r.1 ≡ i). ap (λ n. flag_at (put k i true) n r.1) ek ∙ ap (λ n. flag_at (put k i true) k n) ei ∙ flag-same sets k i true kl il)
              (λ ni. flag-other sets k i true r.0 r.1 kl (λ _. ni) ∙ r.3)
              (cases_eq r.1 i))
              (λ nk. flag-other sets k i true r.0 r.1 kl (λ e _. nk e) ∙ r.3)
              (cases_eq r.0 k))))
              (λ new. subst (λ (z : Chunk). IsAmong (listed 512 base (put k i true)) z) (sym (new ∙ p.is)) (is-listed 512 base (put k i true) k i (flag-same sets k i true kl il)))
              h),
        );
        bytes = let size : c.size ≡ 512 * 2 ^ k = ap (λ (x : Chunk). x.size) p.is in omega (arith, size, listed-total-set 512 base sets k i kl il off);
        listed = listed-listed 512 base (put k i true) (omega arith);
      }

  pub drops : (c : Chunk) (k i : ℕ) → IsPlaceOf (space_of base units sets) c k i → IsAmong (listed 512 base sets) c → Drops (space_of base units sets) c (space_of base units (put k i false))
  drops c k i p there =
      let kl : k < length sets = omega (arith, p.order, shaped.count) in
      let il : i < length (get_or sets k []) = omega (arith, p.index, shaped.sizes k p.order) in
      let on : flag_at sets k i ≡ true = (flag-means k i).1 (subst (λ (z : Chunk). IsAmong (listed 512 base sets) z) p.is there) in
      record {
        place = (refl, refl);
        free = λ q. (
          (λ h.
              let r : (j : ℕ) × (m : ℕ) × (q.base ≡ base + 512 * 2 ^ j * m) × (q.size ≡ 512 * 2 ^ j) × (flag_at (put k i false) j m ≡ true) = listed-is 512 base (put k i false) q h in
              let at : q ≡ chunk_at base r.0 r.1 = same-chunk q (chunk_at base r.0 r.1) r.2 r.3 in
              let not-it : (r.0 ≡ k) → (r.1 ≡ i) → ⊥ = λ ek ei. false≢true (sym (ap (λ n. flag_at (put k i false) n r.1) ek ∙ ap (λ n. flag_at (put k i false) k n) ei ∙ flag-same sets k i false kl il) ∙ r.4) in (
                subst (λ (z : Chunk). IsAmong (listed 512 base sets) z) (sym at) (is-listed 512 base sets r.0 r.1 (sym (flag-other sets k i false r.0 r.1 kl not-it) ∙ r.4)),
                (λ e. let same : (r.0 ≡ k) × (r.1 ≡ i) = same-place base r.0 r.1 k i (sym at ∙ e ∙ p.is) in not-it same.0 same.1),
              )),
          (λ h.
              let r : (j : ℕ) × (m : ℕ) × (q ≡ chunk_at base j m) × (flag_at sets j m ≡ true) × (j < 8) = place-of q h.0 in
              let not-it : (r.0 ≡ k) → (r.1 ≡ i) → ⊥ = λ ek ei. h.1 (r.2 ∙ ap (λ n. chunk_at base n r.1) ek ∙ ap (λ n. chunk_at base k n) ei ∙ sym p.is) in
              subst (λ (z : Chunk). IsAmong (listed 512 base (put k i false)) z) (sym r.2)
              (is-listed 512 base (put k i false) r.0 r.1 (flag-other sets k i false r.0 r.1 kl not-it ∙ r.3))),
        );
        bytes = let size : c.size ≡ 512 * 2 ^ k = ap (λ (x : Chunk). x.size) p.is in omega (arith, size, listed-total-clear 512 base sets k i on);
        listed = listed-listed 512 base (put k i false) (omega arith);
      }

  -- ---- the best chunk

  enough : (len first : ℕ) → IsSizeFor len (512 * 2 ^ first) → (d : Chunk) (k i : ℕ) → d ≡ chunk_at base k i → k < 8 → len ≤ d.size → first ≤ k
  enough len first for d k i at kl l =
      let size : d.size ≡ 512 * 2 ^ k = ap (λ (x : Chunk). x.size) at in
      let le : 512 * 2 ^ first ≤ 512 * 2 ^ k = for.least (512 * 2 ^ k) (k, kl, refl) (omega (arith, size)) in
      ⊎_elim (λ (below : k < first). absurd (
      let p : 2 ^ suc k ≤ 2 ^ first = pow-le-pow_right {n = 2} (omega arith) {i = suc k} {j = first} (omega arith) in omega (arith, le, p, pow-suc 2 k, pow_pos k)))
      (λ ok. ok) (cases_lt k first)

  pub none-for : (len first : ℕ) → IsSizeFor len (512 * 2 ^ first) → ((k : ℕ) → first ≤ k → k < 8 → (i : ℕ) → flag_at sets k i ≡ false) → IsNoneFor (space_of base units sets) len
  none-for len first for none c h =
      let r : (k : ℕ) × (i : ℕ) × (c ≡ chunk_at base k i) × (flag_at sets k i ≡ true) × (k < 8) = place-of c h in
      ⊎_elim (λ l. l)
      (λ ge. absurd (false≢true (sym (none r.0 (enough len first for c r.0 r.1 r.2 r.4 ge) r.4 r.1) ∙ r.3)))
      (cases_lt c.size len)

  pub best-for : (len first k i : ℕ) → IsSizeFor len (512 * 2 ^ first) → first ≤ k → k < 8 → ((j : ℕ) → first ≤ j → j < k → (m : ℕ) → flag_at sets j m ≡ false) → flag_at sets k i ≡ true → ((m : ℕ) → m < i → flag_at sets k m ≡ false) → IsBestFor (space_of base units sets) len (chunk_at base k i)
  best-for len first k i for le kl none on below = record {
    free = (flag-means k i).0 on;
    suffices = let p : 2 ^ first ≤ 2 ^ k = pow-le-pow_right {n = 2} (omega arith) {i = first} {j = k} le in omega (arith, for.suffices, p);
    least = λ d h l.
        let r : (j : ℕ) × (m : ℕ) × (d ≡ chunk_at base j m) × (flag_at sets j m ≡ true) × (j < 8) = place-of d h in
        let size : d.size ≡ 512 * 2 ^ r.0 = ap (λ (x : Chunk). x.size) r.2 in
        ⊎_elim
        (λ (less : r.0 < k). absurd (false≢true (sym (none r.0 (enough len first for d r.0 r.1 r.2 r.4 l) less r.1) ∙ r.3)))
        (λ (ge : k ≤ r.0). let p : 2 ^ k ≤ 2 ^ r.0 = pow-le-pow_right {n = 2} (omega arith) {i = k} {j = r.0} ge in omega (arith, size, p))
        (cases_lt r.0 k);
    lowest = λ d h e.
        let r : (j : ℕ) × (m : ℕ) × (d ≡ chunk_at base j m) × (flag_at sets j m ≡ true) × (j < 8) = place-of d h in
        let size : d.size ≡ 512 * 2 ^ r.0 = ap (λ (x : Chunk). x.size) r.2 in
        let order : r.0 ≡ k = pow-same r.0 k (omega (arith, size, e)) in
        let at : d.base ≡ base + 512 * 2 ^ k * r.1 = ap (λ (x : Chunk). x.base) r.2 ∙ ap (λ n. base + 512 * 2 ^ n * r.1) order in
        ⊎_elim
        (λ (less : r.1 < i). absurd (false≢true (sym (below r.1 less) ∙ ap (λ n. flag_at sets n r.1) (sym order) ∙ r.3)))
        (λ (ge : i ≤ r.1). omega (arith, at, mul-le-mul_left (512 * 2 ^ k) ge))
        (cases_lt r.1 i);
  }

-- ---- from a chunk to its place

tz-pow : (m : ℕ) → m < 32 → trailing_zeros w32 (2 ^ m) ≡ m
tz-pow m l =
    let small : 2 ^ m < 2 ^ 32 = let p : 2 ^ suc m ≤ 2 ^ 32 = pow-le-pow_right {n = 2} (omega arith) {i = suc m} {j = 32} (omega arith) in omega (arith, p, pow-suc 2 m, pow_pos m) in
    let tz : (trailing_zeros w32 (2 ^ m) < 32) × (bit_at (2 ^ m) (trailing_zeros w32 (2 ^ m)) ≡ 1) × ((i : ℕ) → i < trailing_zeros w32 (2 ^ m) → bit_at (2 ^ m) i ≡ 0) = bit_at-trailing_zeros w32 (2 ^ m) (pow_pos m) small in
    ⊎_elim (λ e. e) (λ ne. absurd (omega (arith, tz.1, bit_at-pow_other m (trailing_zeros w32 (2 ^ m)) ne))) (cases_eq (trailing_zeros w32 (2 ^ m)) m)

pub size-pow : (k : ℕ) → 512 * 2 ^ k ≡ 2 ^ (k + 9)
size-pow k = omega arith ∙ sym (pow-add 2 k 9)

pub size-zeros : (size : ℕ) → (h : IsChunkSize size) → trailing_zeros w32 size ≡ h.0 + 9
size-zeros size h = ap (trailing_zeros w32) (h.2 ∙ size-pow h.0) ∙ tz-pow (h.0 + 9) (omega (arith, h.1))

difference-aligned : (a b s : ℕ) → a % s ≡ 0 → b % s ≡ 0 → b ≤ a → (a - b) % s ≡ 0
difference-aligned a b s ea eb l =
    let bm : b ≡ s * (b / s) = multiple-of b s eb in
    let sum : s * (b / s) + (a - b) ≡ a = omega (arith, bm) in
    sym (mul-add-mod_self_left s (b / s) (a - b)) ∙ ap (λ v. v % s) sum ∙ ea

below-product : (s i m : ℕ) → 0 < s → s * i + s ≤ s * m → i < m
below-product s i m pos l = ⊎_elim (λ h. h) (λ (ge : m ≤ i). absurd (omega (arith, l, mul-le-mul_left s ge))) (cases_lt i m)

pub place-is : (s : Space) (c : Chunk) → s.base % 65536 ≡ 0 → (h : IsChunkOf s c) → IsPlaceOf s c h.chunk.size.0 ((c.base - s.base) / 2 ^ (h.chunk.size.0 + 9))
place-is s c aligned h =
    let k : ℕ = h.chunk.size.0 in
    let kl : k < 8 = h.chunk.size.1 in
    let size : c.size ≡ 512 * 2 ^ k = h.chunk.size.2 in
    let base-aligned : s.base % c.size ≡ 0 = aligned-down s.base c.size 65536 h.chunk.size size-unit (size-most c.size h.chunk.size) aligned in
    let rest : c.base - s.base ≡ c.size * ((c.base - s.base) / c.size) = multiple-of (c.base - s.base) c.size (difference-aligned c.base s.base c.size h.chunk.aligned base-aligned h.from) in
    let divisor : c.size ≡ 2 ^ (k + 9) = size ∙ size-pow k in
    let index : (c.base - s.base) / 2 ^ (k + 9) ≡ (c.base - s.base) / c.size = ap (λ v. (c.base - s.base) / v) (sym divisor) in
    let product : c.base - s.base ≡ 512 * 2 ^ k * ((c.base - s.base) / 2 ^ (k + 9)) = rest ∙ ap (λ v. c.size * v) (sym index) ∙ ap (λ v. v * ((c.base - s.base) / 2 ^ (k + 9))) size in
    let unit : 65536 ≡ 512 * 2 ^ k * 2 ^ (7 - k) =
    let sum : k + (7 - k) ≡ 7 = omega (arith, kl) in
    ap (λ p. 512 * p) (ap (λ n. 2 ^ n) (sym sum) ∙ pow-add 2 k (7 - k)) ∙ sym (mul_assoc 512 (2 ^ k) (2 ^ (7 - k))) in
    let room : 65536 * s.units ≡ 512 * 2 ^ k * (s.units * 2 ^ (7 - k)) = ap (λ v. v * s.units) unit ∙ mul_assoc (512 * 2 ^ k) (2 ^ (7 - k)) s.units ∙ ap (λ v. 512 * 2 ^ k * v) (mul_comm (2 ^ (7 - k)) s.units) in
    record {
      order = kl;
      index = below-product (512 * 2 ^ k) ((c.base - s.base) / 2 ^ (k + 9)) (s.units * 2 ^ (7 - k)) (omega (arith, pow_pos k)) (omega (arith, product, size, room, h.from, h.to));
      is = same-chunk c (chunk_at s.base k ((c.base - s.base) / 2 ^ (k + 9))) (omega (arith, product, h.from)) size;
    }

-- ---- nothing is free at first

pub none-at-first : (s a : ℕ) (sets : List (List Bool)) → ((k i : ℕ) → flag_at sets k i ≡ false) → listed s a sets ≡ []
none-at-first s a sets none = none-among (listed s a sets) (λ c h.
    let r : (k : ℕ) × (i : ℕ) × (c.base ≡ a + s * 2 ^ k * i) × (c.size ≡ s * 2 ^ k) × (flag_at sets k i ≡ true) = listed-is s a sets c h in
    false≢true (sym (none r.0 r.1) ∙ r.4))
