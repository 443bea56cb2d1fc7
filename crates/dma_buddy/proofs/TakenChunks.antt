-- What taking a chunk means: the region stays one, and the chunk is out.
use Rattle.std.proofs.Common.{◌≡◌, ◌≢◌, ℕ, zero, suc, ◌+◌, ◌-◌, ◌*◌, ◌/◌, ◌%◌, ◌<◌, ◌≤◌, sym, ap, ◌∙◌, subst, inl, inr, ⊎_elim, arith}
use Rattle.std.proofs.Math.Nat.{mul-mod_right}
use Rattle.std.proofs.lemmas.Bool.{cases_lt, cases_order}
use Rattle.dma_buddy.specs.declared.buddies.Chunk.{Chunk}
use Rattle.dma_buddy.specs.Chunks.{IsChunkSize, IsSizeFor, Apart, IsWithin, buddy, joined, IsLeftOver}
use Rattle.dma_buddy.specs.Regions.{Space, IsFree, IsChunkOf, IsRegion, IsBestFor, Takes, Merges, Gives, LiesInFree, LeavesOut, bytes_free}
use Rattle.dma_buddy.specs.Marks.{Drops, Splits}
use Rattle.dma_buddy.proofs.Sizes.{size-least, size-most, size-next, size-double, aligned-down, sum-aligned, multiple-of, lower-half, upper-half, same-chunk, buddy-of-buddy}
use Rattle.dma_buddy.proofs.Sets.{same-members, same-space, same-or-not}
use Rattle.dma_buddy.proofs.Intervals.{apart-sym, apart-within, not-apart-base, apart-not-within, within-trans, chunk-of-same, positive}

-- ---- what is left of a chunk that is split

pub left-within : (w c q : Chunk) → IsChunkSize w.size → IsLeftOver w c q → IsWithin q w
left-within w c q size l = (omega (arith, l.place), omega (arith, l.place, size-next q.size w.size l.size size l.below))

pub left-chunk : (s : Space) (w c q : Chunk) → IsChunkOf s w → IsLeftOver w c q → IsChunkOf s q
left-chunk s w c q h l =
    let i : IsWithin q w = left-within w c q h.chunk.size l in
    let whole : q.size % q.size ≡ 0 = ap (λ v. v % q.size) (let e : q.size ≡ q.size * 1 = omega arith in e) ∙ mul-mod_right q.size 1 in
    let base : w.base % q.size ≡ 0 = aligned-down w.base q.size w.size l.size h.chunk.size (omega (arith, l.below)) h.chunk.aligned in
    record {
      chunk = record { size = l.size; aligned = ap (λ v. v % q.size) l.place ∙ sum-aligned w.base q.size q.size base whole };
      from = omega (arith, i.0, h.from);
      to = omega (arith, i.1, h.to);
    }

-- the buddy of an upper half begins where the split chunk does
left-buddy : (s : Space) (w c q : Chunk) → IsChunkOf s w → IsLeftOver w c q → (buddy q).base ≡ w.base
left-buddy s w c q h l =
    let small : q.size < 65536 = omega (arith, l.below, size-most w.size h.chunk.size) in
    let twice : 2 * q.size ≤ w.size = size-next q.size w.size l.size h.chunk.size l.below in
    let base : w.base % (2 * q.size) ≡ 0 = aligned-down w.base (2 * q.size) w.size (size-double q.size l.size small) h.chunk.size twice h.chunk.aligned in
    let number : w.base ≡ 2 * q.size * (w.base / (2 * q.size)) = multiple-of w.base (2 * q.size) base in
    upper-half q (w.base / (2 * q.size)) (omega (arith, size-least q.size l.size)) (l.place ∙ ap (λ v. v + q.size) number) ∙ sym number

module _ (s : Space) (len : ℕ) (c : Chunk) (t : Space) (r : IsRegion s) (k : Takes s len c t) where
  whole-chunk : IsChunkOf s k.whole
  whole-chunk = r.chunks k.whole k.best.free

  pub fits-in-whole : c.size ≤ k.whole.size
  fits-in-whole = k.size.least k.whole.size whole-chunk.chunk.size k.best.suffices

  taken-within : IsWithin c k.whole
  taken-within = (omega (arith, k.base), omega (arith, k.base, fits-in-whole))

  old-apart : (q : Chunk) → IsFree s q → q ≢ k.whole → Apart q k.whole
  old-apart q h ne = r.apart q k.whole h k.best.free ne

  chunks-after : (q : Chunk) → IsFree t q → IsChunkOf t q
  chunks-after q h = chunk-of-same s t q k.place (⊎_elim (λ o. r.chunks q o.0) (λ l. left-chunk s k.whole c q whole-chunk l) ((k.free q).0 h))

  apart-after : (p q : Chunk) → IsFree t p → IsFree t q → p ≢ q → Apart p q
  apart-after p q g h ne = ⊎_elim
      (λ po. ⊎_elim
      (λ qo. r.apart p q po.0 qo.0 ne)
      (λ ql. apart-within p q k.whole (left-within k.whole c q whole-chunk.chunk.size ql) (old-apart p po.0 po.1))
      ((k.free q).0 h))
      (λ pl. ⊎_elim
      (λ qo. apart-sym q p (apart-within q p k.whole (left-within k.whole c p whole-chunk.chunk.size pl) (old-apart q qo.0 qo.1)))
      (λ ql. ⊎_elim
      (λ (e : p.size ≡ q.size). absurd (ne (same-chunk p q (omega (arith, pl.place, ql.place, e)) e)))
      (λ o. ⊎_elim
      (λ less. inl (omega (arith, pl.place, ql.place, size-next p.size q.size pl.size ql.size less)))
      (λ more. inr (omega (arith, pl.place, ql.place, size-next q.size p.size ql.size pl.size more)))
      o)
      (cases_order p.size q.size))
      ((k.free q).0 h))
      ((k.free p).0 g)

  old-base : (q : Chunk) → IsFree s q → q ≢ k.whole → q.base ≡ k.whole.base → ⊥
  old-base q h ne e = not-apart-base q k.whole (positive s q (r.chunks q h)) (positive s k.whole whole-chunk) e (old-apart q h ne)

  merged-after : (q : Chunk) → IsFree t q → q.size < 65536 → IsFree t (buddy q) → ⊥
  merged-after q g small h = ⊎_elim
      (λ qo. ⊎_elim
      (λ bo. r.merged q qo.0 small bo.0)
      (λ bl.
      let of-q : IsChunkOf s q = r.chunks q qo.0 in
      let again : buddy (buddy q) ≡ q = buddy-of-buddy q (positive s q of-q) of-q.chunk.aligned in
      old-base q qo.0 qo.1 (sym (ap (λ (x : Chunk). x.base) again) ∙ left-buddy s k.whole c (buddy q) whole-chunk bl))
      ((k.free (buddy q)).0 h))
      (λ ql.
      let base : (buddy q).base ≡ k.whole.base = left-buddy s k.whole c q whole-chunk ql in
      ⊎_elim
      (λ bo. old-base (buddy q) bo.0 bo.1 base)
      (λ bl. omega (arith, base, bl.place, size-least q.size ql.size))
      ((k.free (buddy q)).0 h))
      ((k.free q).0 g)

  -- what is free afterwards lay in a free chunk
  pub lay-before : (q d : Chunk) → IsFree t q → IsWithin d q → LiesInFree s d
  lay-before q d h i = ⊎_elim
      (λ o. (q, o.0, i))
      (λ l. (k.whole, k.best.free, within-trans d q k.whole i (left-within k.whole c q whole-chunk.chunk.size l)))
      ((k.free q).0 h)

  pub region-after-take : IsRegion t
  region-after-take = record {
    aligned = ap (λ b. b % 65536) k.place.0 ∙ r.aligned;
    fits = omega (arith, r.fits, k.place.0, k.place.1);
    chunks = chunks-after;
    apart = apart-after;
    merged = merged-after;
    listed = k.listed;
  }

  taken-chunk : IsChunkOf s c
  taken-chunk = record {
    chunk = record {
      size = k.size.one_of;
      aligned = ap (λ b. b % c.size) k.base ∙ aligned-down k.whole.base c.size k.whole.size k.size.one_of whole-chunk.chunk.size fits-in-whole whole-chunk.chunk.aligned;
    };
    from = omega (arith, k.base, whole-chunk.from);
    to = omega (arith, k.base, whole-chunk.to, fits-in-whole);
  }

  pub leaves-out : bytes_free t + c.size ≡ bytes_free s → LeavesOut s c t
  leaves-out bytes = record {
    lay = (k.whole, k.best.free, taken-within);
    out = record {
      chunk = chunk-of-same s t c k.place taken-chunk;
      apart = λ d h. ⊎_elim
          (λ o. apart-sym d c (apart-within d c k.whole taken-within (old-apart d o.0 o.1)))
          (λ l. inl (omega (arith, k.base, l.place, l.at_least)))
          ((k.free d).0 h);
    };
    others = λ d o. (
      record {
        chunk = chunk-of-same s t d k.place o.chunk;
        apart = λ q h. ⊎_elim
            (λ old. o.apart q old.0)
            (λ l. apart-within d q k.whole (left-within k.whole c q whole-chunk.chunk.size l) (o.apart k.whole k.best.free))
            ((k.free q).0 h);
      },
      apart-sym d c (apart-within d c k.whole taken-within (o.apart k.whole k.best.free)),
    );
    bytes = bytes;
  }

  -- ---- given back, the chunk becomes again what it was split from

  start-of : (b : Chunk) → b.base ≡ k.whole.base → IsChunkSize b.size → b.size < k.whole.size → ((buddy b).base ≡ b.base + b.size) × ((joined b).base ≡ b.base)
  start-of b e size less =
      let small : b.size < 65536 = omega (arith, less, size-most k.whole.size whole-chunk.chunk.size) in
      let twice : 2 * b.size ≤ k.whole.size = size-next b.size k.whole.size size whole-chunk.chunk.size less in
      let base : k.whole.base % (2 * b.size) ≡ 0 = aligned-down k.whole.base (2 * b.size) k.whole.size (size-double b.size size small) whole-chunk.chunk.size twice whole-chunk.chunk.aligned in
      lower-half b (k.whole.base / (2 * b.size)) (omega (arith, size-least b.size size)) (e ∙ multiple-of k.whole.base (2 * b.size) base)

  buddy-left : (b : Chunk) → b.base ≡ k.whole.base → IsChunkSize b.size → c.size ≤ b.size → b.size < k.whole.size → IsFree t (buddy b)
  buddy-left b e size ge less = (k.free (buddy b)).1 (inr (record {
    size = size;
    at_least = ge;
    below = less;
    place = (start-of b e size less).0 ∙ ap (λ v. v + b.size) e;
  }))

  no-more : (b : Chunk) → b ≡ k.whole → b.size < 65536 → IsFree t (buddy b) → ⊥
  no-more b e small h =
      let at : IsFree t (buddy k.whole) = subst (λ (x : Chunk). IsFree t (buddy x)) e h in
      let size : b.size ≡ k.whole.size = ap (λ (x : Chunk). x.size) e in
      ⊎_elim
      (λ o. r.merged k.whole k.best.free (omega (arith, small, size)) o.0)
      (λ l. omega (arith, l.below))
      ((k.free (buddy k.whole)).0 at)

  grows-back : (n : ℕ) (b v : Chunk) → b.base ≡ k.whole.base → IsChunkSize b.size → c.size ≤ b.size → b.size ≤ k.whole.size → Merges n t b v → (v.size < 65536 → IsFree t (buddy v) → ⊥) → v ≡ k.whole
  grows-back zero b v e size ge le m ends = ⊎_elim
      (λ less. absurd (
      let small : v.size < 65536 = omega (arith, ap (λ (x : Chunk). x.size) m, less, size-most k.whole.size whole-chunk.chunk.size) in
      ends small (subst (λ (x : Chunk). IsFree t (buddy x)) (sym m) (buddy-left b e size ge less))))
      (λ same. m ∙ same-chunk b k.whole e (omega arith))
      (cases_lt b.size k.whole.size)
  grows-back (suc n) b v e size ge le m ends = ⊎_elim
      (λ less.
      let at : (joined b).base ≡ k.whole.base = (start-of b e size less).1 ∙ e in
      grows-back n (joined b) v at (size-double b.size size m.0) (omega arith) (size-next b.size k.whole.size size whole-chunk.chunk.size less) m.2 ends)
      (λ same. absurd (no-more b (same-chunk b k.whole e (omega arith)) m.0 m.1))
      (cases_lt b.size k.whole.size)

  pub given-back : (u : Space) → Gives t c u → u ≡ s
  given-back u g =
      let back : g.whole ≡ k.whole = grows-back g.times c g.whole k.base k.size.one_of (omega arith) fits-in-whole g.merges g.ends in
      same-space u s (g.place.0 ∙ k.place.0) (g.place.1 ∙ k.place.1)
      (same-members u.free s.free g.listed r.listed
      (λ q h. ⊎_elim
      (λ e. subst (λ (x : Chunk). IsFree s x) (sym (e ∙ back)) k.best.free)
      (λ o. ⊎_elim
      (λ old. old.0)
      (λ l. absurd (o.1 (subst (λ (x : Chunk). IsWithin q x) (sym back) (left-within k.whole c q whole-chunk.chunk.size l))))
      ((k.free q).0 o.0))
      ((g.free q).0 h))
      (λ q h. (g.free q).1 (⊎_elim
      (λ e. inl (e ∙ sym back))
      (λ ne. inr (
        (k.free q).1 (inl (h, ne)),
        (λ i. apart-not-within k.whole q (positive s q (r.chunks q h)) (apart-sym q k.whole (old-apart q h ne)) (subst (λ (x : Chunk). IsWithin q x) back i)),
      ))
      (same-or-not q k.whole))))

-- ---- by the steps of the code

pub takes : (s m t : Space) (len : ℕ) (w c : Chunk) → IsBestFor s len w → IsSizeFor len c.size → c.base ≡ w.base → Drops s w m → Splits m w c.size t → Takes s len c t
takes s m t len w c best size base d p = record {
  place = (p.place.0 ∙ d.place.0, p.place.1 ∙ d.place.1);
  whole = w;
  best = best;
  base = base;
  size = size;
  free = λ q. (
    (λ h. ⊎_elim (λ o. inl ((d.free q).0 o)) (λ l. inr (record { size = l.size; at_least = l.at_least; below = l.below; place = l.place })) ((p.free q).0 h)),
    (λ h. (p.free q).1 (⊎_elim (λ o. inl ((d.free q).1 o)) (λ l. inr (record { size = l.size; at_least = l.at_least; below = l.below; place = l.place })) h)),
  );
  listed = p.listed;
}

module _ (s m t : Space) (r : IsRegion s) (len : ℕ) (w c : Chunk) (best : IsBestFor s len w) (size : IsSizeFor len c.size) (base : c.base ≡ w.base) (d : Drops s w m) (p : Splits m w c.size t) where
  taken : Takes s len c t
  taken = takes s m t len w c best size base d p

  bytes : bytes_free t + c.size ≡ bytes_free s
  bytes = omega (arith, d.bytes, p.bytes)

  pub take-region : IsRegion t
  take-region = region-after-take s len c t r taken

  pub take-out : LeavesOut s c t
  take-out = leaves-out s len c t r taken bytes

  pub take-bytes : (b : ℕ) → b ≡ bytes_free s → b - c.size ≡ bytes_free t
  take-bytes b e = omega (arith, e, bytes)

  pub take-enough : (b : ℕ) → b ≡ bytes_free s → c.size ≤ b
  take-enough b e = omega (arith, e, bytes)

pub size-within : (s : Space) (r : IsRegion s) (len size : ℕ) (w : Chunk) → IsBestFor s len w → IsSizeFor len size → size ≤ w.size
size-within s r len size w best for = for.least w.size (r.chunks w best.free).chunk.size best.suffices
