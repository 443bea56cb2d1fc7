-- Chunks that are held stay out, and apart from each other, while others are taken and given back.
use Rattle.std.proofs.Common.{◌≡◌, ℕ, zero, suc, ◌<◌, List, [], ◌∷◌, ◌++◌, length, get_or, refl, sym, subst, inl, inr, ⊎_elim, arith}
use Rattle.std.specs.List.{remove}
use Rattle.dma_buddy.specs.declared.buddies.Chunk.{Chunk}
use Rattle.dma_buddy.specs.Chunks.{Apart}
use Rattle.dma_buddy.specs.Regions.{Space, IsAmong, IsOut, AreOut, AreApart, LeavesOut, LeavesAllOut, PutsBack}
use Rattle.dma_buddy.proofs.Sets.{among-append}
use Rattle.dma_buddy.proofs.Intervals.{apart-sym}

pub none-out : (s : Space) → AreOut s []
none-out s = record { out = λ c i. absurd i; apart = tt }

apart-append : (xs ys : List Chunk) → AreApart xs → AreApart ys → ((c d : Chunk) → IsAmong xs c → IsAmong ys d → Apart c d) → AreApart (xs ++ ys)
apart-append [] ys g h between = h
apart-append (x ∷ xs) ys g h between = (
  (λ d i. ⊎_elim (λ l. g.0 d l) (λ r. between x d (inl refl) r) (among-append xs ys d i)),
  apart-append xs ys g.1 h (λ c d i j. between c d (inr i) j),
)

pub held-more : (s t : Space) (xs cs : List Chunk) → AreOut s xs → LeavesAllOut s cs t → AreOut t (xs ++ cs)
held-more s t xs cs h k = record {
  out = λ d i. ⊎_elim (λ l. (k.others d (h.out d l)).0) (λ r. k.out d r) (among-append xs cs d i);
  apart = apart-append xs cs h.apart k.apart (λ c d i j. apart-sym d c ((k.others c (h.out c i)).1 d j));
}

pub held-one : (s t : Space) (xs : List Chunk) (c : Chunk) → AreOut s xs → LeavesOut s c t → AreOut t (xs ++ c ∷ [])
held-one s t xs c h k = record {
  out = λ d i. ⊎_elim
      (λ l. (k.others d (h.out d l)).0)
      (λ r. ⊎_elim (λ e. subst (λ (x : Chunk). IsOut t x) (sym e) k.out) (λ n. absurd n) r)
      (among-append xs (c ∷ []) d i);
  apart = apart-append xs (c ∷ []) h.apart ((λ d i. absurd i), tt)
      (λ a d i j. ⊎_elim (λ e. subst (λ (x : Chunk). Apart a x) (sym e) (apart-sym c a (k.others a (h.out a i)).1)) (λ n. absurd n) j);
}

among-remove : (xs : List Chunk) (i : ℕ) (d : Chunk) → IsAmong (remove xs i) d → IsAmong xs d
among-remove [] zero d h = h
among-remove [] (suc i) d h = h
among-remove (x ∷ xs) zero d h = inr h
among-remove (x ∷ xs) (suc i) d h = ⊎_elim (λ e. inl e) (λ t. inr (among-remove xs i d t)) h

pub among-at : (xs : List Chunk) (i : ℕ) (c : Chunk) → i < length xs → IsAmong xs (get_or xs i c)
among-at [] i c l = absurd (omega arith)
among-at (x ∷ xs) zero c l = inl refl
among-at (x ∷ xs) (suc i) c l = inr (among-at xs i c (omega arith))

apart-remove : (xs : List Chunk) (i : ℕ) → AreApart xs → AreApart (remove xs i)
apart-remove [] zero h = tt
apart-remove [] (suc i) h = tt
apart-remove (x ∷ xs) zero h = h.1
apart-remove (x ∷ xs) (suc i) h = ((λ d j. h.0 d (among-remove xs i d j)), apart-remove xs i h.1)

apart-removed : (xs : List Chunk) (i : ℕ) (c d : Chunk) → i < length xs → AreApart xs → IsAmong (remove xs i) d → Apart (get_or xs i c) d
apart-removed [] i c d l h j = absurd (omega arith)
apart-removed (x ∷ xs) zero c d l h j = h.0 d j
apart-removed (x ∷ xs) (suc i) c d l h j = ⊎_elim
    (λ e. subst (λ (z : Chunk). Apart (get_or xs i c) z) (sym e) (apart-sym x (get_or xs i c) (h.0 (get_or xs i c) (among-at xs i c (omega arith)))))
    (λ t. apart-removed xs i c d (omega arith) h.1 t)
    j

pub held-out : (s : Space) (xs : List Chunk) (i : ℕ) (c : Chunk) → i < length xs → AreOut s xs → c ≡ get_or xs i c → IsOut s c
held-out s xs i c l h e = h.out c (subst (λ (x : Chunk). IsAmong xs x) (sym e) (among-at xs i c l))

pub held-less : (s t : Space) (xs : List Chunk) (i : ℕ) (c : Chunk) → i < length xs → AreOut s xs → c ≡ get_or xs i c → PutsBack s c t → AreOut t (remove xs i)
held-less s t xs i c l h e k = record {
  out = λ d j. k.others d (h.out d (among-remove xs i d j)) (subst (λ (x : Chunk). Apart x d) (sym e) (apart-removed xs i c d l h.apart j));
  apart = apart-remove xs i h.apart;
}

pub held-same : (s t : Space) (xs ys : List Chunk) → t ≡ s → ys ≡ xs → AreOut s xs → AreOut t ys
held-same s t xs ys e f h = subst (λ (x : Space). AreOut x ys) (sym e) (subst (λ (y : List Chunk). AreOut s y) (sym f) h)

-- for the tests
pub ruleset holding = (none-out, held-more, held-one, held-out, held-less, held-same)
