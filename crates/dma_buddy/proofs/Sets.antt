-- Lists of chunks as sets.
use Rattle.std.proofs.Common.{◌≡◌, ◌≢◌, ℕ, ◌⊎◌, List, [], ◌∷◌, ◌++◌, refl, sym, ap, ◌∙◌, inl, inr, ⊎_elim, arith}
use Rattle.std.proofs.lemmas.Bool.{cases_eq}
use Rattle.dma_buddy.specs.declared.buddies.Chunk.{Chunk}
use Rattle.dma_buddy.specs.Regions.{Space, IsAmong, IsBefore, IsListed}
use Rattle.dma_buddy.proofs.Sizes.{same-chunk}

pub same-or-not : (c d : Chunk) → (c ≡ d) ⊎ (c ≢ d)
same-or-not c d = ⊎_elim
    (λ (b : c.base ≡ d.base). ⊎_elim (λ (s : c.size ≡ d.size). inl (same-chunk c d b s)) (λ ns. inr (λ e. ns (ap (λ (x : Chunk). x.size) e))) (cases_eq c.size d.size))
    (λ nb. inr (λ e. nb (ap (λ (x : Chunk). x.base) e)))
    (cases_eq c.base d.base)

pub among-or-not : (xs : List Chunk) (c : Chunk) → IsAmong xs c ⊎ (IsAmong xs c → ⊥)
among-or-not [] c = inr (λ h. h)
among-or-not (x ∷ xs) c = ⊎_elim (λ e. inl (inl e)) (λ ne. ⊎_elim (λ h. inl (inr h)) (λ nh. inr (λ h. ⊎_elim ne nh h)) (among-or-not xs c)) (same-or-not c x)

pub among-left : (xs ys : List Chunk) (c : Chunk) → IsAmong xs c → IsAmong (xs ++ ys) c
among-left [] ys c h = absurd h
among-left (x ∷ xs) ys c h = ⊎_elim (λ e. inl e) (λ t. inr (among-left xs ys c t)) h

pub among-right : (xs ys : List Chunk) (c : Chunk) → IsAmong ys c → IsAmong (xs ++ ys) c
among-right [] ys c h = h
among-right (x ∷ xs) ys c h = inr (among-right xs ys c h)

pub among-append : (xs ys : List Chunk) (c : Chunk) → IsAmong (xs ++ ys) c → IsAmong xs c ⊎ IsAmong ys c
among-append [] ys c h = inr h
among-append (x ∷ xs) ys c h = ⊎_elim (λ e. inl (inl e)) (λ t. ⊎_elim (λ l. inl (inr l)) (λ r. inr r) (among-append xs ys c t)) h

pub not-before-itself : (c d : Chunk) → c ≡ d → IsBefore c d → ⊥
not-before-itself c d e h =
    let b : c.base ≡ d.base = ap (λ (x : Chunk). x.base) e in
    let s : c.size ≡ d.size = ap (λ (x : Chunk). x.size) e in
    ⊎_elim (λ l. omega arith) (λ p. omega (arith, p.1)) h

not-both : (c d : Chunk) → IsBefore c d → IsBefore d c → ⊥
not-both c d g h = ⊎_elim
    (λ l. ⊎_elim (λ m. omega arith) (λ q. omega (arith, q.0)) h)
    (λ p. ⊎_elim (λ m. omega (arith, p.0)) (λ q. omega (arith, p.1, q.1)) h)
    g

-- A set has one list.
pub same-members : (xs ys : List Chunk) → IsListed xs → IsListed ys → ((c : Chunk) → IsAmong xs c → IsAmong ys c) → ((c : Chunk) → IsAmong ys c → IsAmong xs c) → xs ≡ ys
same-members [] [] g h to from = refl
same-members [] (y ∷ ys) g h to from = absurd (from y (inl refl))
same-members (x ∷ xs) [] g h to from = absurd (to x (inl refl))
same-members (x ∷ xs) (y ∷ ys) g h to from =
    let head : x ≡ y = ⊎_elim
    (λ e. e)
    (λ (in-ys : IsAmong ys x). ⊎_elim (λ e. sym e) (λ (in-xs : IsAmong xs y). absurd (not-both x y (g.0 y in-xs) (h.0 x in-ys))) (from y (inl refl)))
    (to x (inl refl))
    in
    let there : (c : Chunk) → IsAmong xs c → IsAmong ys c = λ c i. ⊎_elim (λ e. absurd (not-before-itself x c (head ∙ sym e) (g.0 c i))) (λ j. j) (to c (inr i)) in
    let back : (c : Chunk) → IsAmong ys c → IsAmong xs c = λ c i. ⊎_elim (λ e. absurd (not-before-itself y c (sym head ∙ sym e) (h.0 c i))) (λ j. j) (from c (inr i)) in
    ap (λ z. z ∷ xs) head ∙ ap (λ zs. y ∷ zs) (same-members xs ys g.1 h.1 there back)

pub none-among : (xs : List Chunk) → ((c : Chunk) → IsAmong xs c → ⊥) → xs ≡ []
none-among [] h = refl
none-among (x ∷ xs) h = absurd (h x (inl refl))

pub listed-append : (xs ys : List Chunk) → IsListed xs → IsListed ys → ((c d : Chunk) → IsAmong xs c → IsAmong ys d → IsBefore c d) → IsListed (xs ++ ys)
listed-append [] ys g h between = h
listed-append (x ∷ xs) ys g h between = (
  (λ c i. ⊎_elim (λ l. g.0 c l) (λ r. between x c (inl refl) r) (among-append xs ys c i)),
  listed-append xs ys g.1 h (λ c d i j. between c d (inr i) j),
)

-- Spaces with the same place and the same members are the same.
pub same-space : (s t : Space) → s.base ≡ t.base → s.units ≡ t.units → s.free ≡ t.free → s ≡ t
same-space s t b u f =
    ap (λ (x : ℕ). let r : Space = record { base = x; units = s.units; free = s.free } in r) b
    ∙ ap (λ (x : ℕ). let r : Space = record { base = t.base; units = x; free = s.free } in r) u
    ∙ ap (λ (x : List Chunk). let r : Space = record { base = t.base; units = t.units; free = x } in r) f
