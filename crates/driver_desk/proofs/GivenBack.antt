-- Chunks that are given back one after another.
use Rattle.std.proofs.Common.{arith, ◌≡◌, ℕ, zero, suc, ◌+◌, ◌<◌, ◌≤◌, List, [], ◌∷◌, ◌++◌, length, get_or, drop, refl, sym, ap, subst, ◌∙◌, inl, inr, append_assoc}
use Rattle.std.specs.Prelude.{All, slice_get, Some}
use Rattle.std.proofs.lemmas.List.{append-nil, drop_more, drop_all, length-map, get_or-map}
use Rattle.std.specs.List.{remove}
use Rattle.dma_buddy.specs.declared.buddies.Chunk.{Chunk}
use Rattle.dma_buddy.specs.Regions.{Space, IsRegion, IsOut, IsAmong, AreOut, TakesAll, Gives, PutsBack, IsSamePlace}
use Rattle.dma_buddy.proofs.Held.{held-less, among-at}
use Rattle.dma_buddy.proofs.TakenChunks.{region-after-take}
use Rattle.dma_buddy.proofs.Lists.{undone}
use Rattle.desk_law.specs.declared.ticket.Piece.{Piece}
use Rattle.desk_law.specs.Calls.{GivesAll}
use Rattle.driver_desk.specs.Held.{piece_chunks}

removed : (xs cs : List Chunk) (c : Chunk) → remove (xs ++ c ∷ cs) (length xs) ≡ xs ++ cs
removed [] cs c = refl
removed (x ∷ xs) cs c = ap (λ (ys : List Chunk). x ∷ ys) (removed xs cs c)

longer : (xs cs : List Chunk) (c : Chunk) → length xs < length (xs ++ c ∷ cs)
longer [] cs c = omega arith
longer (x ∷ xs) cs c = omega (arith, longer xs cs c)

placed : (xs cs : List Chunk) (c : Chunk) → c ≡ get_or (xs ++ c ∷ cs) (length xs) c
placed [] cs c = refl
placed (x ∷ xs) cs c = placed xs cs c

-- one chunk of those that are out goes back: the others stay out
pub one_back : (s t : Space) (xs cs : List Chunk) (c : Chunk) → AreOut s (xs ++ c ∷ cs) → PutsBack s c t → AreOut t (xs ++ cs)
one_back s t xs cs c h k =
    subst (λ (ys : List Chunk). AreOut t ys) (removed xs cs c) (held-less s t (xs ++ c ∷ cs) (length xs) c (longer xs cs c) h (placed xs cs c) k)

pub first_out : (s : Space) (c : Chunk) (cs : List Chunk) → AreOut s (c ∷ cs) → IsOut s c
first_out s c cs h = h.out c (inl refl)

-- ---- the chunks of a buffer

pub rest_of : (ps : List Piece) (i : ℕ) (d : Piece) → i < length ps → piece_chunks (drop i ps) ≡ (get_or ps i d).chunk ∷ piece_chunks (drop (i + 1) ps)
rest_of ps i d low = ap piece_chunks (drop_more ps i d low)

pub record GivenSoFar (s t : Space) (ps : List Piece) (i : ℕ) : Type 0 where
  pub out : AreOut t (piece_chunks (drop i ps))
  pub given : (u : Space) → GivesAll t (piece_chunks (drop i ps)) u → GivesAll s (piece_chunks ps) u
  pub others : (xs ys : List Chunk) → AreOut s (xs ++ (piece_chunks ps ++ ys)) → AreOut t (xs ++ (piece_chunks (drop i ps) ++ ys))
  pub place : IsSamePlace s t

pub out_at : (s t : Space) (ps : List Piece) (i : ℕ) (d : Piece) → i < length ps → GivenSoFar s t ps i → IsOut t (get_or ps i d).chunk
out_at s t ps i d low h =
    first_out t (get_or ps i d).chunk (piece_chunks (drop (i + 1) ps)) (subst (λ (cs : List Chunk). AreOut t cs) (rest_of ps i d low) h.out)

pub given_one : (s t u : Space) (ps : List Piece) (i : ℕ) (d : Piece) → i < length ps → GivenSoFar s t ps i → Gives t (get_or ps i d).chunk u
    → PutsBack t (get_or ps i d).chunk u → GivenSoFar s u ps (i + 1)
given_one s t u ps i d low h g b =
    let e = rest_of ps i d low in
    let c = (get_or ps i d).chunk in
    let cs = piece_chunks (drop (i + 1) ps) in
    record {
      out = one_back t u [] cs c (subst (λ (xs : List Chunk). AreOut t xs) e h.out) b;
      given = λ v k. h.given v (subst (λ (xs : List Chunk). GivesAll t xs v) (sym e) (u, g, k));
      others = λ xs ys o. one_back t u xs (cs ++ ys) c (subst (λ (zs : List Chunk). AreOut t (xs ++ (zs ++ ys))) e (h.others xs ys o)) b;
      place = (g.place.0 ∙ h.place.0, g.place.1 ∙ h.place.1);
    }

-- ---- chunks that were taken in order

pub undone_rest : (s t u v : Space) (lens : List ℕ) (c : Chunk) (cs : List Chunk) → IsRegion s → TakesAll s lens (c ∷ cs) t
    → ((m : Space) (ls : List ℕ) → IsRegion m → TakesAll m ls cs t → u ≡ m) → Gives u c v → v ≡ s
undone_rest s t u v [] c cs r k back g = absurd k
undone_rest s t u v (len ∷ lens) c cs r k back g =
    undone s k.0 u v len c r k.1 (back k.0 lens (region-after-take s len c k.0 r k.1) k.2) g

-- those behind the first are out
pub rest_out : (s : Space) (cs : List Chunk) (i : ℕ) (d : Chunk) → i < length cs → AreOut s (drop i cs) → AreOut s (drop (i + 1) cs)
rest_out s cs i d low h =
    let k : AreOut s (get_or cs i d ∷ drop (i + 1) cs) = subst (λ (xs : List Chunk). AreOut s xs) (drop_more cs i d low) h in
    record { out = λ c among. k.out c (inr among); apart = k.apart.1 }

pub others_rest : (s u : Space) (cs : List Chunk) (i : ℕ) (d : Chunk) → i < length cs → ((xs : List Chunk) → AreOut s (xs ++ drop (i + 1) cs) → AreOut u xs)
    → (xs : List Chunk) → AreOut s (xs ++ drop i cs) → AreOut u (xs ++ get_or cs i d ∷ [])
others_rest s u cs i d low back xs h =
    back (xs ++ get_or cs i d ∷ [])
    (subst (λ (zs : List Chunk). AreOut s zs) (sym (append_assoc xs (get_or cs i d ∷ []) (drop (i + 1) cs)))
    (subst (λ (zs : List Chunk). AreOut s (xs ++ zs)) (drop_more cs i d low) h))

pub others_all : (s u v : Space) (cs : List Chunk) (i : ℕ) (d : Chunk) → i < length cs → ((xs : List Chunk) → AreOut s (xs ++ drop (i + 1) cs) → AreOut u xs)
    → PutsBack u (get_or cs i d) v → (xs : List Chunk) → AreOut s (xs ++ drop i cs) → AreOut v xs
others_all s u v cs i d low back put xs h =
    subst (λ (zs : List Chunk). AreOut v zs) (append-nil xs) (one_back u v xs [] (get_or cs i d) (others_rest s u cs i d low back xs h) put)

pub chunk_out : (s u : Space) (cs : List Chunk) (i : ℕ) (d : Chunk) → i < length cs → ((xs : List Chunk) → AreOut s (xs ++ drop (i + 1) cs) → AreOut u xs)
    → AreOut s (drop i cs) → IsOut u (get_or cs i d)
chunk_out s u cs i d low back h = first_out u (get_or cs i d) [] (others_rest s u cs i d low back [] h)

pub undone_all : (s t u v : Space) (lens : List ℕ) (cs : List Chunk) (i : ℕ) (d : Chunk) → i < length cs → IsRegion s → TakesAll s lens (drop i cs) t
    → ((m : Space) (ls : List ℕ) → IsRegion m → TakesAll m ls (drop (i + 1) cs) t → u ≡ m) → Gives u (get_or cs i d) v → v ≡ s
undone_all s t u v lens cs i d low r k back g =
    undone_rest s t u v lens (get_or cs i d) (drop (i + 1) cs) r (subst (λ (xs : List Chunk). TakesAll s lens xs t) (drop_more cs i d low) k) back g

none-taken : (s t : Space) (lens : List ℕ) → TakesAll s lens [] t → t ≡ s
none-taken s t [] k = k
none-taken s t (l ∷ ls) k = absurd k

pub undone_none : (s t : Space) (lens : List ℕ) (cs : List Chunk) (i : ℕ) → length cs ≤ i → TakesAll s lens (drop i cs) t → t ≡ s
undone_none s t lens cs i high k = none-taken s t lens (subst (λ (xs : List Chunk). TakesAll s lens xs t) (drop_all i cs high) k)

pub others_none : (s : Space) (cs : List Chunk) (i : ℕ) → length cs ≤ i → (xs : List Chunk) → AreOut s (xs ++ drop i cs) → AreOut s xs
others_none s cs i high xs h = subst (λ (zs : List Chunk). AreOut s zs) (ap (λ (ys : List Chunk). xs ++ ys) (drop_all i cs high) ∙ append-nil xs) h

-- ---- the chunk of a segment

pub chunk_at : (ps : List Piece) (j : ℕ) (p : Piece) → j < length ps → p ≡ get_or ps j p → slice_get (piece_chunks ps) j ≡ Some p.chunk
chunk_at [] j p low e = absurd (omega (arith, low))
chunk_at (q ∷ qs) zero p low e = ap (λ (x : Piece). Some x.chunk) (sym e)
chunk_at (q ∷ qs) (suc j) p low e = chunk_at qs j p (omega (arith, low)) e

-- ---- segments lie in memory

pub pieces_inside : (s : Space) (ps : List Piece) → s.base ≡ 0x200000 → s.units ≡ 32 → ((c : Chunk) → IsAmong (piece_chunks ps) c → IsOut s c)
    → All (λ (p : Piece). p.len ≤ p.chunk.size) ps → All (λ (p : Piece). p.chunk.base + p.len ≤ 0x400000) ps
pieces_inside s ps base units out fits i d low =
    let among : IsAmong (piece_chunks ps) (get_or ps i d).chunk =
    subst (λ (c : Chunk). IsAmong (piece_chunks ps) c) (get_or-map (λ (p : Piece). p.chunk) ps i d d.chunk low)
    (among-at (piece_chunks ps) i d.chunk (omega (arith, low, length-map ps (λ (p : Piece). p.chunk)))) in
    let to = (out (get_or ps i d).chunk among).chunk.to in
    let fit : (get_or ps i d).len ≤ (get_or ps i d).chunk.size = fits i d low in
    omega (arith, to, fit, base, units)
