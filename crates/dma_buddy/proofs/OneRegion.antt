-- One region and one length give one region.
use Rattle.std.proofs.Common.{◌≡◌, ℕ, zero, suc, ◌<◌, List, [], ◌∷◌, refl, sym, ap, ◌∙◌, subst, inl, inr, ⊎_elim, arith}
use Rattle.dma_buddy.specs.declared.buddies.Chunk.{Chunk}
use Rattle.dma_buddy.specs.Chunks.{IsSizeFor, IsWithin, buddy, joined, IsLeftOver}
use Rattle.dma_buddy.specs.Regions.{Space, IsFree, IsBestFor, IsNoneFor, Takes, TakesAll, RefusesAt, Merges, Gives}
use Rattle.dma_buddy.specs.Laws.{OneTake, OneTakeAll, OneGive}
use Rattle.dma_buddy.proofs.Sizes.{same-chunk}
use Rattle.dma_buddy.proofs.Sets.{same-members, same-space}

-- ---- take

best-one : (s : Space) (len : ℕ) (c d : Chunk) → IsBestFor s len c → IsBestFor s len d → c ≡ d
best-one s len c d g h =
    let size : c.size ≡ d.size = omega (arith, g.least d h.free h.suffices, h.least c g.free g.suffices) in
    same-chunk c d (omega (arith, g.lowest d h.free (sym size), h.lowest c g.free size)) size

size-one : (len a b : ℕ) → IsSizeFor len a → IsSizeFor len b → a ≡ b
size-one len a b g h = omega (arith, g.least b h.one_of h.suffices, h.least a g.one_of g.suffices)

taken-one : (s : Space) (len : ℕ) (c d : Chunk) (t u : Space) → Takes s len c t → Takes s len d u → c ≡ d
taken-one s len c d t u g h =
    let whole : g.whole ≡ h.whole = best-one s len g.whole h.whole g.best h.best in
    same-chunk c d (g.base ∙ ap (λ (x : Chunk). x.base) whole ∙ sym h.base) (size-one len c.size d.size g.size h.size)

take-frees : (s : Space) (len : ℕ) (c d : Chunk) (t u : Space) → Takes s len c t → Takes s len d u → (q : Chunk) → IsFree t q → IsFree u q
take-frees s len c d t u g h q i =
    let whole : g.whole ≡ h.whole = best-one s len g.whole h.whole g.best h.best in
    let same : c ≡ d = taken-one s len c d t u g h in
    (h.free q).1 (⊎_elim
    (λ o. inl (o.0, λ e. o.1 (e ∙ sym whole)))
    (λ l. inr (subst (λ (w : Chunk). IsLeftOver w d q) whole (subst (λ (x : Chunk). IsLeftOver g.whole x q) same l)))
    ((g.free q).0 i))

take-one : (s : Space) (len : ℕ) (c d : Chunk) (t u : Space) → Takes s len c t → Takes s len d u → (c ≡ d) × (t ≡ u)
take-one s len c d t u g h = (
  taken-one s len c d t u g h,
  same-space t u (g.place.0 ∙ sym h.place.0) (g.place.1 ∙ sym h.place.1)
      (same-members t.free u.free g.listed h.listed (take-frees s len c d t u g h) (take-frees s len d c u t h g)),
)

take-suffices : (s : Space) (len : ℕ) (c : Chunk) (t : Space) → Takes s len c t → IsNoneFor s len → ⊥
take-suffices s len c t g none = omega (arith, none g.whole g.best.free, g.best.suffices)

pub one-take : (s : Space) (len : ℕ) → OneTake s len
one-take s len = record { one = take-one s len; either = take-suffices s len }

-- ---- take_all

taken-first : (s : Space) (len : ℕ) (c d : Chunk) (m n : Space) (P : Space → Type 0) → Takes s len c m → Takes s len d n → P n → P m
taken-first s len c d m n P g h p = subst P (sym (take-one s len c d m n g h).1) p

take-all-one : (s : Space) (lens : List ℕ) (cs ds : List Chunk) (t u : Space) → TakesAll s lens cs t → TakesAll s lens ds u → (cs ≡ ds) × (t ≡ u)
take-all-one s [] [] [] t u g h = (refl, g ∙ sym h)
take-all-one s [] [] (d ∷ ds) t u g h = absurd h
take-all-one s [] (c ∷ cs) ds t u g h = absurd g
take-all-one s (len ∷ lens) [] ds t u g h = absurd g
take-all-one s (len ∷ lens) (c ∷ cs) [] t u g h = absurd h
take-all-one s (len ∷ lens) (c ∷ cs) (d ∷ ds) t u g h =
    let rest : (cs ≡ ds) × (t ≡ u) = take-all-one g.0 lens cs ds t u g.2 (taken-first s len c d g.0 h.0 (λ m. TakesAll m lens ds u) g.1 h.1 h.2) in
    (ap (λ (x : Chunk). x ∷ cs) (taken-one s len c d g.0 h.0 g.1 h.1) ∙ ap (λ (x : List Chunk). d ∷ x) rest.0, rest.1)

refusal-one : (s : Space) (lens : List ℕ) (len other : ℕ) → RefusesAt s lens len → RefusesAt s lens other → len ≡ other
refusal-one s [] len other g h = absurd g
refusal-one s (l ∷ ls) len other g h = ⊎_elim
    (λ here. ⊎_elim
    (λ there. sym here.0 ∙ there.0)
    (λ later. absurd (take-suffices s l later.0 later.1 later.2 (subst (λ (x : ℕ). IsNoneFor s x) (sym here.0) here.1)))
    h)
    (λ first. ⊎_elim
    (λ there. absurd (take-suffices s l first.0 first.1 first.2 (subst (λ (x : ℕ). IsNoneFor s x) (sym there.0) there.1)))
    (λ later. refusal-one first.1 ls len other first.3 (taken-first s l first.0 later.0 first.1 later.1 (λ m. RefusesAt m ls other) first.2 later.2 later.3))
    h)
    g

all-or-refused : (s : Space) (lens : List ℕ) (cs : List Chunk) (t : Space) (len : ℕ) → TakesAll s lens cs t → RefusesAt s lens len → ⊥
all-or-refused s [] cs t len g h = h
all-or-refused s (l ∷ ls) [] t len g h = g
all-or-refused s (l ∷ ls) (c ∷ cs) t len g h = ⊎_elim
    (λ here. take-suffices s l c g.0 g.1 (subst (λ (x : ℕ). IsNoneFor s x) (sym here.0) here.1))
    (λ later. all-or-refused g.0 ls cs t len g.2 (taken-first s l c later.0 g.0 later.1 (λ m. RefusesAt m ls len) g.1 later.2 later.3))
    h

pub one-take-all : (s : Space) (lens : List ℕ) → OneTakeAll s lens
one-take-all s lens = record { one = take-all-one s lens; refused = refusal-one s lens; either = all-or-refused s lens }

-- ---- give

-- merging ends at one chunk
merges-one : (m n : ℕ) (s : Space) (c v w : Chunk) → Merges m s c v → Merges n s c w → (v.size < 65536 → IsFree s (buddy v) → ⊥) → (w.size < 65536 → IsFree s (buddy w) → ⊥) → v ≡ w
merges-one zero zero s c v w g h ev ew = g ∙ sym h
merges-one zero (suc n) s c v w g h ev ew = absurd (ev (subst (λ (x : Chunk). x.size < 65536) (sym g) h.0) (subst (λ (x : Chunk). IsFree s (buddy x)) (sym g) h.1))
merges-one (suc m) zero s c v w g h ev ew = absurd (ew (subst (λ (x : Chunk). x.size < 65536) (sym h) g.0) (subst (λ (x : Chunk). IsFree s (buddy x)) (sym h) g.1))
merges-one (suc m) (suc n) s c v w g h ev ew = merges-one m n s (joined c) v w g.2 h.2 ev ew

give-frees : (s : Space) (c : Chunk) (t u : Space) → Gives s c t → Gives s c u → (q : Chunk) → IsFree t q → IsFree u q
give-frees s c t u g h q i =
    let whole : g.whole ≡ h.whole = merges-one g.times h.times s c g.whole h.whole g.merges h.merges g.ends h.ends in
    (h.free q).1 (⊎_elim
    (λ e. inl (e ∙ whole))
    (λ o. inr (o.0, λ w. o.1 (subst (λ (x : Chunk). IsWithin q x) (sym whole) w)))
    ((g.free q).0 i))

pub one-give : (s : Space) (c : Chunk) → OneGive s c
one-give s c t u g h = same-space t u (g.place.0 ∙ sym h.place.0) (g.place.1 ∙ sym h.place.1)
    (same-members t.free u.free g.listed h.listed (give-frees s c t u g h) (give-frees s c u t h g))
