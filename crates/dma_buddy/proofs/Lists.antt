-- Lists of chunks that are out.
use Rattle.std.proofs.Common.{◌≡◌, ℕ, ◌+◌, ◌<◌, List, [], ◌∷◌, ◌++◌, refl, sym, ◌∙◌, subst, inl, inr, ⊎_elim, arith, append_assoc, length, get_or, drop}
use Rattle.std.proofs.lemmas.List.{append-nil, drop_more, drop_all}
use Rattle.std.proofs.lemmas.List.Sums.{sum_by-cons}
use Rattle.dma_buddy.specs.declared.buddies.Chunk.{Chunk}
use Rattle.dma_buddy.specs.Chunks.{Apart}
use Rattle.dma_buddy.specs.Regions.{Space, IsAmong, IsRegion, IsOut, IsNoneFor, Takes, TakesAll, RefusesAt, Gives, LiesInFree, LeavesOut, LeavesAllOut}
use Rattle.dma_buddy.specs.Marks.{TakesOnto}
use Rattle.dma_buddy.proofs.Intervals.{apart-sym}
use Rattle.dma_buddy.proofs.TakenChunks.{lay-before, given-back}

pub onto-none : (s : Space) (front : List Chunk) → TakesOnto s [] front front s
onto-none s front = record {
  chunks = [];
  added = sym (append-nil front);
  taken = refl;
  out = record { lay = λ c i. absurd i; out = λ c i. absurd i; apart = tt; others = λ d o. (o, λ c i. absurd i); bytes = omega arith };
}

all-out-more : (s m t : Space) (len : ℕ) (c : Chunk) (cs : List Chunk) → IsRegion s → Takes s len c m → LeavesOut s c m → LeavesAllOut m cs t → LeavesAllOut s (c ∷ cs) t
all-out-more s m t len c cs r k one rest = record {
  lay = λ q i. ⊎_elim
      (λ e. subst (λ (x : Chunk). LiesInFree s x) (sym e) one.lay)
      (λ j. let l : LiesInFree m q = rest.lay q j in lay-before s len c m r k l.0 q l.1 l.2)
      i;
  out = λ q i. ⊎_elim
      (λ e. subst (λ (x : Chunk). IsOut t x) (sym e) (rest.others c one.out).0)
      (λ j. rest.out q j)
      i;
  apart = ((λ d i. apart-sym d c ((rest.others c one.out).1 d i)), rest.apart);
  others = λ d o.
      let now : IsOut m d × Apart c d = one.others d o in
      let then' : IsOut t d × ((q : Chunk) → IsAmong cs q → Apart q d) = rest.others d now.0 in
      (then'.0, λ q i. ⊎_elim (λ e. subst (λ (x : Chunk). Apart x d) (sym e) now.1) (λ j. then'.1 q j) i);
  bytes = omega (arith, one.bytes, rest.bytes, sum_by-cons (λ (x : Chunk). x.size) c cs);
}

pub onto-more : (s m t : Space) (len : ℕ) (lens : List ℕ) (c : Chunk) (front back : List Chunk) → IsRegion s → Takes s len c m → LeavesOut s c m → TakesOnto m lens (front ++ c ∷ []) back t → TakesOnto s (len ∷ lens) front back t
onto-more s m t len lens c front back r k o rest = record {
  chunks = c ∷ rest.chunks;
  added = rest.added ∙ append_assoc front (c ∷ []) rest.chunks;
  taken = (m, k, rest.taken);
  out = all-out-more s m t len c rest.chunks r k o rest.out;
}

pub refused-first : (s : Space) (len : ℕ) (lens : List ℕ) → IsNoneFor s len → RefusesAt s (len ∷ lens) len
refused-first s len lens n = inl (refl, n)

pub refused-later : (s m : Space) (len : ℕ) (lens : List ℕ) (c : Chunk) (which : ℕ) → Takes s len c m → RefusesAt m lens which → RefusesAt s (len ∷ lens) which
refused-later s m len lens c which k h = inr (c, m, k, h)

-- what is given back at once is the region as it was
pub undone : (s m n t : Space) (len : ℕ) (c : Chunk) → IsRegion s → Takes s len c m → n ≡ m → Gives n c t → t ≡ s
undone s m n t len c r k e g = given-back s len c m r k t (subst (λ (x : Space). Gives x c t) e g)

pub onto-empty : (s t : Space) (lens : List ℕ) (back : List Chunk) → TakesOnto s lens [] back t → TakesAll s lens back t × LeavesAllOut s back t
onto-empty s t lens back h = (
  subst (λ (x : List Chunk). TakesAll s lens x t) (sym h.added) h.taken,
  subst (λ (x : List Chunk). LeavesAllOut s x t) (sym h.added) h.out,
)

-- ---- from a place on

module _ (lens : List ℕ) (from : ℕ) where
  pub each-none : from ≡ length lens → (s : Space) (front : List Chunk) → TakesOnto s (drop from lens) front front s
  each-none e s front = subst (λ (ls : List ℕ). TakesOnto s ls front front s) (sym (drop_all from lens (omega (arith, e)))) (onto-none s front)

  module _ (within : from < length lens) (s : Space) where
    here : drop from lens ≡ get_or lens from 0 ∷ drop (from + 1) lens
    here = drop_more lens from 0 within

    pub each-refused : (len : ℕ) → len ≡ get_or lens from 0 → IsNoneFor s len → RefusesAt s (drop from lens) len
    each-refused len e none = subst (λ (ls : List ℕ). RefusesAt s ls len) (sym here)
        (subst (λ (l : ℕ). RefusesAt s (l ∷ drop (from + 1) lens) len) e (refused-first s len (drop (from + 1) lens) none))

    pub each-more : (m t : Space) (len : ℕ) (c : Chunk) (front back : List Chunk) → len ≡ get_or lens from 0 → IsRegion s → Takes s len c m → LeavesOut s c m → TakesOnto m (drop (from + 1) lens) (front ++ c ∷ []) back t → TakesOnto s (drop from lens) front back t
    each-more m t len c front back e r k o rest = subst (λ (ls : List ℕ). TakesOnto s ls front back t) (sym here)
        (subst (λ (l : ℕ). TakesOnto s (l ∷ drop (from + 1) lens) front back t) e (onto-more s m t len (drop (from + 1) lens) c front back r k o rest))

    pub each-later : (m : Space) (len : ℕ) (c : Chunk) (which : ℕ) → len ≡ get_or lens from 0 → Takes s len c m → RefusesAt m (drop (from + 1) lens) which → RefusesAt s (drop from lens) which
    each-later m len c which e k h = subst (λ (ls : List ℕ). RefusesAt s ls which) (sym here)
        (subst (λ (l : ℕ). RefusesAt s (l ∷ drop (from + 1) lens) which) e (refused-later s m len (drop (from + 1) lens) c which k h))
