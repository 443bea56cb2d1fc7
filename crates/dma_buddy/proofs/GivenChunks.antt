-- What giving a chunk back means: the region stays one, and the other chunks stay out.
use Rattle.std.proofs.Common.{◌≡◌, ◌≢◌, ℕ, zero, suc, ◌+◌, ◌%◌, ◌<◌, ◌⊎◌, refl, sym, ap, ◌∙◌, subst, inl, inr, ⊎_elim, arith}
use Rattle.dma_buddy.specs.declared.buddies.Chunk.{Chunk}
use Rattle.dma_buddy.specs.Chunks.{Apart, IsWithin, buddy, joined}
use Rattle.dma_buddy.specs.Regions.{Space, IsFree, IsChunkOf, IsRegion, IsOut, IsSamePlace, Merges, Gives, PutsBack, bytes_free}
use Rattle.dma_buddy.specs.Marks.{Adds, Drops, Merged}
use Rattle.dma_buddy.proofs.Sizes.{buddy-of-buddy}
use Rattle.dma_buddy.proofs.Intervals.{apart-sym, not-apart-itself, apart-not-within, within-trans, halves-within, buddies-apart, apart-joined, pair-inside, chunk-of-same, positive}

merges-more : (n : ℕ) (s : Space) (c w : Chunk) → Merges n s c w → w.size < 65536 → IsFree s (buddy w) → Merges (suc n) s c (joined w)
merges-more zero s c w m small h =
    (subst (λ (x : Chunk). x.size < 65536) m small, subst (λ (x : Chunk). IsFree s (buddy x)) m h, ap joined m)
merges-more (suc n) s c w m small h = (m.0, m.1, merges-more n s (joined c) w m.2 small h)

module _ (s : Space) (r : IsRegion s) (c : Chunk) (out : IsOut s c) where
  pub merged-none : Merged s c c s
  merged-none = record {
    place = (refl, refl);
    times = 0;
    merges = refl;
    chunk = out.chunk;
    holds = (omega arith, omega arith);
    free = λ q. ((λ h. (h, apart-not-within c q (positive s q (r.chunks q h)) (out.apart q h))), (λ h. h.0));
    apart = out.apart;
    others = λ d o a. a;
    bytes = refl;
    listed = r.listed;
  }

  pub merged-more : (w : Chunk) (m n : Space) → Merged s c w m → w.size < 65536 → IsFree m (buddy w) → Drops m (buddy w) n → Merged s c (joined w) n
  merged-more w m n g small h d =
      let pos : 0 < w.size = positive s w g.chunk in
      let al : w.base % w.size ≡ 0 = g.chunk.chunk.aligned in
      let free : IsFree s (buddy w) = ((g.free (buddy w)).0 h).0 in
      let halves : IsWithin w (joined w) × IsWithin (buddy w) (joined w) = halves-within w pos al in
      let apart-now : (q : Chunk) → IsFree n q → Apart (joined w) q = λ q i.
      let before : IsFree m q × (q ≢ buddy w) = (d.free q).0 i in
      let in-s : IsFree s q = ((g.free q).0 before.0).0 in
      apart-joined w q pos al (positive s q (r.chunks q in-s)) (g.apart q before.0) (apart-sym q (buddy w) (r.apart q (buddy w) in-s free before.1)) in
      record {
        place = (d.place.0 ∙ g.place.0, d.place.1 ∙ g.place.1);
        times = suc g.times;
        merges = merges-more g.times s c w g.merges small free;
        chunk = (pair-inside s w r.aligned g.chunk small).0;
        holds = within-trans c w (joined w) g.holds halves.0;
        free = λ q. (
          (λ i.
              let in-s : IsFree s q = ((g.free q).0 ((d.free q).0 i).0).0 in
              (in-s, apart-not-within (joined w) q (positive s q (r.chunks q in-s)) (apart-now q i))),
          (λ i. (d.free q).1 (
            (g.free q).1 (i.0, (λ j. i.1 (within-trans q w (joined w) j halves.0))),
            (λ e. i.1 (subst (λ (x : Chunk). IsWithin x (joined w)) (sym e) halves.1)),
          )),
        );
        apart = apart-now;
        others = λ e o a. apart-joined w e pos al (positive s e o.chunk) (g.others e o a) (apart-sym e (buddy w) (o.apart (buddy w) free));
        bytes = omega (arith, g.bytes, d.bytes);
        listed = d.listed;
      }

  pub buddy-inside : (w : Chunk) (m : Space) → Merged s c w m → w.size < 65536 → IsChunkOf m (buddy w)
  buddy-inside w m g small = chunk-of-same s m (buddy w) g.place (pair-inside s w r.aligned g.chunk small).1

  pub merged-step : (w : Chunk) (m n : Space) (other grown : Chunk) → Merged s c w m → w.size < 65536 → other ≡ buddy w → IsFree m other → Drops m other n → grown ≡ joined w → Merged s c grown n
  merged-step w m n other grown g small e h d f =
      let free : IsFree m (buddy w) = subst (λ (x : Chunk). IsFree m x) e h in
      let drop : Drops m (buddy w) n = subst (λ (x : Chunk). Drops m x n) e d in
      subst (λ (x : Chunk). Merged s c x n) (sym f) (merged-more w m n g small free drop)

  module _ (w : Chunk) (m t : Space) (g : Merged s c w m) (ends : w.size < 65536 → IsFree m (buddy w) → ⊥) (a : Adds m w t) where
    pos : 0 < w.size
    pos = positive s w g.chunk

    ends-before : w.size < 65536 → IsFree s (buddy w) → ⊥
    ends-before small h = ends small ((g.free (buddy w)).1
        (h, apart-not-within w (buddy w) pos (buddies-apart w pos g.chunk.chunk.aligned)))

    pub gives : Gives s c t
    gives = record {
      place = (a.place.0 ∙ g.place.0, a.place.1 ∙ g.place.1);
      whole = w;
      times = g.times;
      merges = g.merges;
      ends = ends-before;
      free = λ q. (
        (λ h. ⊎_elim (λ i. inr ((g.free q).0 i)) (λ e. inl e) ((a.free q).0 h)),
        (λ h. (a.free q).1 (⊎_elim (λ e. inr e) (λ i. inl ((g.free q).1 i)) h)),
      );
      listed = a.listed;
    }

    old-or-new : (q : Chunk) → IsFree t q → (IsFree m q × IsFree s q) ⊎ (q ≡ w)
    old-or-new q h = ⊎_elim (λ i. inl (i, ((g.free q).0 i).0)) (λ e. inr e) ((a.free q).0 h)

    of-w : (q : Chunk) → q ≡ w → IsChunkOf s q
    of-w q e = subst (λ (x : Chunk). IsChunkOf s x) (sym e) g.chunk

    merged-after : (q : Chunk) → IsFree t q → q.size < 65536 → IsFree t (buddy q) → ⊥
    merged-after q h small i = ⊎_elim
        (λ o. ⊎_elim
        (λ b. r.merged q o.1 small b.1)
        (λ (e : buddy q ≡ w).
        let of-q : IsChunkOf s q = r.chunks q o.1 in
        let same : q ≡ buddy w = sym (buddy-of-buddy q (positive s q of-q) of-q.chunk.aligned) ∙ ap buddy e in
        ends (subst (λ (x : Chunk). x.size < 65536) e small) (subst (λ (x : Chunk). IsFree m x) same o.0))
        (old-or-new (buddy q) i))
        (λ (e : q ≡ w). ⊎_elim
        (λ b. ends (subst (λ (x : Chunk). x.size < 65536) e small) (subst (λ (x : Chunk). IsFree m (buddy x)) e b.0))
        (λ b. not-apart-itself w pos (subst (λ (x : Chunk). Apart w x) (sym (ap buddy e) ∙ b) (buddies-apart w pos g.chunk.chunk.aligned)))
        (old-or-new (buddy q) i))
        (old-or-new q h)

    same : IsSamePlace s t
    same = (a.place.0 ∙ g.place.0, a.place.1 ∙ g.place.1)

    pub region-after-give : IsRegion t
    region-after-give = record {
      aligned = ap (λ b. b % 65536) same.0 ∙ r.aligned;
      fits = omega (arith, r.fits, same.0, same.1);
      chunks = λ q h. chunk-of-same s t q same (⊎_elim (λ o. r.chunks q o.1) (λ e. of-w q e) (old-or-new q h));
      apart = λ p q h i ne. ⊎_elim
          (λ po. ⊎_elim
          (λ qo. r.apart p q po.1 qo.1 ne)
          (λ qe. subst (λ (x : Chunk). Apart p x) (sym qe) (apart-sym w p (g.apart p po.0)))
          (old-or-new q i))
          (λ pe. ⊎_elim
          (λ qo. subst (λ (x : Chunk). Apart x q) (sym pe) (g.apart q qo.0))
          (λ qe. absurd (ne (pe ∙ sym qe)))
          (old-or-new q i))
          (old-or-new p h);
      merged = merged-after;
      listed = a.listed;
    }

    pub puts-back : PutsBack s c t
    puts-back = record {
      others = λ d o apart. record {
        chunk = chunk-of-same s t d same o.chunk;
        apart = λ q h. ⊎_elim
            (λ old. o.apart q old.1)
            (λ e. subst (λ (x : Chunk). Apart d x) (sym e) (apart-sym w d (g.others d o apart)))
            (old-or-new q h);
      };
      bytes = omega (arith, g.bytes, a.bytes);
    }

    pub fits-back : (b : ℕ) → b ≡ bytes_free s → b + c.size ≡ bytes_free t
    fits-back b e = omega (arith, e, g.bytes, a.bytes)
