-- The steps of a split, and of the opening.
use Rattle.std.proofs.Common.{◌≡◌, ◌≢◌, ◌↔◌, ℕ, zero, suc, ◌+◌, ◌-◌, ◌*◌, ◌/◌, ◌%◌, ◌^◌, ◌<◌, ◌≤◌, [], refl, sym, ap, ◌∙◌, subst, inl, inr, ⊎_elim, arith}
use Rattle.std.proofs.Math.Nat.{pow-suc}
use Rattle.std.proofs.lemmas.Bool.{cases_lt, cases_order}
use Rattle.dma_buddy.specs.declared.buddies.Chunk.{Chunk}
use Rattle.dma_buddy.specs.Chunks.{IsChunkSize, Apart, IsLeftOver}
use Rattle.dma_buddy.specs.Regions.{Space, IsFree, IsListed, IsChunkOf, IsRegion, IsWhole, bytes_free}
use Rattle.dma_buddy.specs.Marks.{Adds, Splits}
use Rattle.dma_buddy.proofs.Sizes.{size-least, size-next, size-unit, same-chunk}
use Rattle.dma_buddy.proofs.Intervals.{apart-not-within, chunk-of-same}
use Rattle.dma_buddy.proofs.TakenChunks.{left-within, left-chunk}

pub size-half : (s : ℕ) → IsChunkSize s → 512 < s → IsChunkSize (s / 2) × (2 * (s / 2) ≡ s)
size-half s h l = go h.0 h.1 h.2
  where
    go : (k : ℕ) → k < 8 → s ≡ 512 * 2 ^ k → IsChunkSize (s / 2) × (2 * (s / 2) ≡ s)
    go zero kl e = absurd (omega (arith, e))
    go (suc k) kl e =
        let twice : s ≡ 2 * (512 * 2 ^ k) = omega (arith, e, pow-suc 2 k) in
        ((k, omega arith, omega (arith, twice)), omega (arith, twice))

abbrev pub part : Chunk → ℕ → Chunk
part w size = record { base = w.base + size; size = size }

pub splits-none : (s : Space) (w : Chunk) → IsListed s.free → Splits s w w.size s
splits-none s w listed = record {
  place = (refl, refl);
  free = λ q. ((λ h. inl h), (λ h. ⊎_elim (λ o. o) (λ l. absurd (omega (arith, l.at_least, l.below))) h));
  bytes = refl;
  listed = listed;
}

module _ (s : Space) (w : Chunk) (half : ℕ) (m : Space) (small : IsChunkSize half) (large : IsChunkSize (2 * half)) (within : 2 * half ≤ w.size) (p : Splits s w (2 * half) m) where
  pub part-left : IsLeftOver w (part w half) (part w half)
  part-left = record { size = small; at_least = omega arith; below = omega (arith, within, size-least half small); place = refl }

  pub part-chunk : IsChunkOf s w → IsChunkOf m (part w half)
  part-chunk h = chunk-of-same s m (part w half) p.place (left-chunk s w (part w half) (part w half) h part-left)

  pub part-absent : IsChunkOf s w → ((q : Chunk) → IsFree s q → Apart q w) → IsFree m (part w half) → ⊥
  part-absent h apart f = ⊎_elim
      (λ o. apart-not-within w (part w half) (omega (arith, size-least half small)) (sym-apart (apart (part w half) o)) (left-within w (part w half) (part w half) h.chunk.size part-left))
      (λ l. omega (arith, l.at_least, size-least half small))
      ((p.free (part w half)).0 f)
    where
      sym-apart : Apart (part w half) w → Apart w (part w half)
      sym-apart a = ⊎_elim (λ l. inr l) (λ r. inl r) a

  pub splits-more : (n : Space) → Adds m (part w half) n → Splits s w half n
  splits-more n a = record {
    place = (a.place.0 ∙ p.place.0, a.place.1 ∙ p.place.1);
    free = λ q. (
      (λ h. ⊎_elim
          (λ i. ⊎_elim (λ o. inl o) (λ l. inr (record { size = l.size; at_least = omega (arith, l.at_least); below = l.below; place = l.place })) ((p.free q).0 i))
          (λ e. inr (record {
            size = subst (λ (x : Chunk). IsChunkSize x.size) (sym e) small;
            at_least = omega (arith, ap (λ (x : Chunk). x.size) e);
            below = omega (arith, ap (λ (x : Chunk). x.size) e, within, size-least half small);
            place = omega (arith, ap (λ (x : Chunk). x.base) e, ap (λ (x : Chunk). x.size) e);
          }))
          ((a.free q).0 h)),
      (λ h. (a.free q).1 (⊎_elim
          (λ o. inl ((p.free q).1 (inl o)))
          (λ l. ⊎_elim
          (λ less. inl ((p.free q).1 (inr (record { size = l.size; at_least = size-next half q.size small l.size less; below = l.below; place = l.place }))))
          (λ le. let size : q.size ≡ half = omega (arith, l.at_least, le) in inr (same-chunk q (part w half) (omega (arith, l.place, size)) size))
          (cases_lt half q.size))
          h)),
    );
    bytes = omega (arith, a.bytes, p.bytes);
    listed = a.listed;
  }

module _ (s : Space) (w : Chunk) (half : ℕ) (m : Space) (size : IsChunkSize half) (big : 512 < half) (within : half ≤ w.size) (p : Splits s w half m) where
  halved : IsChunkSize (half / 2) × (2 * (half / 2) ≡ half)
  halved = size-half half size big

  large : IsChunkSize (2 * (half / 2))
  large = subst IsChunkSize (sym halved.1) size

  whole-again : Splits s w (2 * (half / 2)) m
  whole-again = subst (λ (n : ℕ). Splits s w n m) (sym halved.1) p

  pub step-size : IsChunkSize (half / 2)
  step-size = halved.0

  pub step-at-least : (least : ℕ) → IsChunkSize least → least < half → least ≤ half / 2
  step-at-least least h l = omega (arith, size-next least half h size l)

  pub step-chunk : IsChunkOf s w → IsChunkOf m (part w (half / 2))
  step-chunk h = part-chunk s w (half / 2) m halved.0 large (omega (arith, halved.1, within)) whole-again h

  pub step-absent : IsChunkOf s w → ((q : Chunk) → IsFree s q → Apart q w) → IsFree m (part w (half / 2)) → ⊥
  step-absent h apart f = part-absent s w (half / 2) m halved.0 large (omega (arith, halved.1, within)) whole-again h apart f

  pub step-more : (n : Space) → Adds m (part w (half / 2)) n → Splits s w (half / 2) n
  step-more n a = splits-more s w (half / 2) m halved.0 large (omega (arith, halved.1, within)) whole-again n a

-- ---- the opening

abbrev pub unit_of : ℕ → ℕ → Chunk
unit_of base n = record { base = base + 65536 * n; size = 65536 }

-- The first n units are the free chunks.
pub record Opened (s : Space) (base units n : ℕ) : Type 0 where
  pub at : s.base ≡ base
  pub count : s.units ≡ units
  pub free : (q : Chunk) → IsFree s q ↔ ((m : ℕ) × (m < n) × (q ≡ unit_of base m))
  pub bytes : bytes_free s ≡ 65536 * n
  pub listed : IsListed s.free

abbrev pub space : ℕ → ℕ → Space
space base units = record { base = base; units = units; free = [] }

pub opened-none : (s : Space) (base units : ℕ) → s ≡ space base units → Opened s base units 0
opened-none s base units e = subst (λ (x : Space). Opened x base units 0) (sym e) (record {
  at = refl;
  count = refl;
  free = λ q. ((λ h. absurd h), (λ h. absurd (omega (arith, h.1))));
  bytes = refl;
  listed = tt;
})

module _ (s : Space) (base units n : ℕ) (aligned : base % 65536 ≡ 0) (o : Opened s base units n) where
  pub unit-chunk : n < units → IsChunkOf s (unit_of base n)
  unit-chunk l = record {
    chunk = record { size = size-unit; aligned = omega (arith, aligned) };
    from = omega (arith, o.at);
    to = omega (arith, o.at, o.count);
  }

  pub unit-absent : IsFree s (unit_of base n) → ⊥
  unit-absent h =
      let m : (m : ℕ) × (m < n) × (unit_of base n ≡ unit_of base m) = (o.free (unit_of base n)).0 h in
      omega (arith, m.1, ap (λ (x : Chunk). x.base) m.2)

  pub opened-more : (t : Space) → Adds s (unit_of base n) t → Opened t base units (n + 1)
  opened-more t a = record {
    at = a.place.0 ∙ o.at;
    count = a.place.1 ∙ o.count;
    free = λ q. (
      (λ h. ⊎_elim
          (λ i. let m : (m : ℕ) × (m < n) × (q ≡ unit_of base m) = (o.free q).0 i in (m.0, omega (arith, m.1), m.2))
          (λ e. (n, omega arith, e))
          ((a.free q).0 h)),
      (λ h. (a.free q).1 (⊎_elim
          (λ (less : h.0 < n). inl ((o.free q).1 (h.0, less, h.2)))
          (λ (ge : n ≤ h.0). let same : h.0 ≡ n = omega (arith, h.1) in inr (h.2 ∙ ap (unit_of base) same))
          (cases_lt h.0 n))),
    );
    bytes = omega (arith, a.bytes, o.bytes);
    listed = a.listed;
  }

module _ (s : Space) (base units : ℕ) (aligned : base % 65536 ≡ 0) (fits : base + 65536 * units < 2 ^ 32) (o : Opened s base units units) where
  is-chunk : (q : Chunk) → (m : ℕ) × (m < units) × (q ≡ unit_of base m) → IsChunkOf s q
  is-chunk q m = subst (λ (x : Chunk). IsChunkOf s x) (sym m.2) (record {
    chunk = record { size = size-unit; aligned = omega (arith, aligned) };
    from = omega (arith, o.at);
    to = omega (arith, o.at, o.count, m.1);
  })

  is-apart : (p q : Chunk) → (m : ℕ) × (m < units) × (p ≡ unit_of base m) → (n : ℕ) × (n < units) × (q ≡ unit_of base n) → p ≢ q → Apart p q
  is-apart p q m n ne = ⊎_elim
      (λ (e : m.0 ≡ n.0). absurd (ne (m.2 ∙ ap (unit_of base) e ∙ sym n.2)))
      (λ o. ⊎_elim
      (λ less. inl (omega (arith, less, ap (λ (x : Chunk). x.base) m.2, ap (λ (x : Chunk). x.size) m.2, ap (λ (x : Chunk). x.base) n.2)))
      (λ more. inr (omega (arith, more, ap (λ (x : Chunk). x.base) m.2, ap (λ (x : Chunk). x.size) n.2, ap (λ (x : Chunk). x.base) n.2)))
      o)
      (cases_order m.0 n.0)

  pub opened-region : IsRegion s
  opened-region = record {
    aligned = ap (λ b. b % 65536) o.at ∙ aligned;
    fits = omega (arith, fits, o.at, o.count);
    chunks = λ c h. is-chunk c ((o.free c).0 h);
    apart = λ c d h i ne. is-apart c d ((o.free c).0 h) ((o.free d).0 i) ne;
    merged = λ c h small _. let m : (m : ℕ) × (m < units) × (c ≡ unit_of base m) = (o.free c).0 h in omega (arith, small, ap (λ (x : Chunk). x.size) m.2);
    listed = o.listed;
  }

  pub opened-whole : IsWhole s
  opened-whole c = (
    (λ h. let m : (m : ℕ) × (m < units) × (c ≡ unit_of base m) = (o.free c).0 h in (is-chunk c m, ap (λ (x : Chunk). x.size) m.2)),
    (λ h.
        let al : c.base % 65536 ≡ 0 = subst (λ (z : ℕ). c.base % z ≡ 0) h.1 h.0.chunk.aligned in
        let n : ℕ = (c.base - base) / 65536 in
        let at : c.base ≡ base + 65536 * n = omega (arith, al, aligned, h.0.from, o.at) in
        (o.free c).1 (n, omega (arith, at, h.0.to, h.1, o.at, o.count), same-chunk c (unit_of base n) at h.1)),
  )
