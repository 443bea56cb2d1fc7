-- Free gives its ticket's chunks back: the other live tickets go on to own their parts of the buffer region.
use Rattle.std.proofs.Common.{◌≡◌, ◌≢◌, ◌⊎◌, inl, inr, ⊎_elim, ℕ, zero, suc, ◌%◌, ◌<◌, ◌≤◌, List, [], ◌∷◌, length, map, get_or, true, false, refl, sym, ap, subst, ◌∙◌, arith, set, get_or-set_same, get_or-set_other}
use Rattle.std.proofs.lemmas.List.{get_or_past}
use Rattle.dma_buddy.specs.declared.buddies.Chunk.{Chunk}
use Rattle.dma_buddy.specs.Chunks.{Apart, IsWithin, buddy, joined}
use Rattle.dma_buddy.specs.Regions.{Space, IsFree, IsChunkOf, IsRegion, IsOut, IsSamePlace, Merges, Gives}
use Rattle.dma_buddy.proofs.Intervals.{apart-sym, apart-joined, halves-within, within-trans, chunk-of-same, pair-inside, positive, buddies-apart, not-apart-itself}
use Rattle.dma_buddy.proofs.Sets.{same-or-not}
use Rattle.dma_buddy.proofs.Sizes.{buddy-of-buddy}
use Rattle.desk_law.specs.declared.stage.Stage.TheVariants.{Freed}
use Rattle.desk_law.specs.declared.ticket.Piece.{Piece}
use Rattle.desk_law.specs.declared.ticket.Ticket.{Ticket}
use Rattle.desk_law.specs.Desk.{DeskState, ticket, no_ticket, lives}
use Rattle.desk_law.specs.Calls.{GivesAll}
use Rattle.word_owners.specs.Spaces.{no_piece, piece_at, IsPiece, FreeOwns}

-- ---- a chunk that grows by its free buddies

-- each free chunk lies in it or is apart from it
abbrev Splits : Space → Chunk → Type 0
Splits s c = (q : Chunk) → IsFree s q → Apart c q ⊎ IsWithin q c

record Grown (s : Space) (c w : Chunk) : Type 0 where
  chunk : IsChunkOf s w
  splits : Splits s w
  apart : (d : Chunk) → IsOut s d → Apart c d → Apart w d

module _ (s : Space) (r : IsRegion s) where
  splits-joined : (c : Chunk) → IsChunkOf s c → c.size < 65536 → IsFree s (buddy c) → Splits s c → Splits s (joined c)
  splits-joined c k small f h q g =
      let pos = positive s c k in
      let in' = halves-within c pos k.chunk.aligned in
      elim (h q g) [
        | inr i ↦ inr (within-trans q c (joined c) i in'.0)
        | inl a ↦ elim (same-or-not q (buddy c)) [
          | inl e ↦ inr (subst (λ (y : Chunk). IsWithin y (joined c)) (sym e) in'.1)
          | inr ne ↦ inl (apart-joined c q pos k.chunk.aligned (positive s q (r.chunks q g)) a (r.apart (buddy c) q f g (λ e. ne (sym e))))
        ]
      ]

  apart-grown : (c d : Chunk) → IsChunkOf s c → IsFree s (buddy c) → IsOut s d → Apart c d → Apart (joined c) d
  apart-grown c d k f o a = apart-joined c d (positive s c k) k.chunk.aligned (positive s d o.chunk) a (apart-sym d (buddy c) (o.apart (buddy c) f))

  grown : (n : ℕ) (c w : Chunk) → IsChunkOf s c → Splits s c → Merges n s c w → Grown s c w
  grown zero c w k h m = subst (Grown s c) (sym m) (record { chunk = k; splits = h; apart = λ d o a. a })
  grown (suc n) c w k h m =
      let p = pair-inside s c r.aligned k m.0 in
      let g = grown n (joined c) w p.0 (splits-joined c k m.0 m.1 h) m.2 in
      record { chunk = g.chunk; splits = g.splits; apart = λ d o a. g.apart d o (apart-grown c d k m.1 o a) }

-- ---- one chunk is given back

record Given (s : Space) (c : Chunk) (t : Space) : Type 0 where
  region : IsRegion t
  place : IsSamePlace s t
  others : (d : Chunk) → IsOut s d → Apart c d → IsOut t d

module _ (s : Space) (c : Chunk) (t : Space) (r : IsRegion s) (o : IsOut s c) (k : Gives s c t) where
  g : Grown s c k.whole
  g = grown s r k.times c k.whole o.chunk (λ q f. inl (o.apart q f)) k.merges

  old-apart : (q : Chunk) → IsFree s q → (IsWithin q k.whole → ⊥) → Apart k.whole q
  old-apart q f n = elim (g.splits q f) [ inl a ↦ a | inr i ↦ absurd (n i) ]

  given-chunks : (q : Chunk) → IsFree t q → IsChunkOf t q
  given-chunks q f = chunk-of-same s t q k.place (⊎_elim (λ e. subst (IsChunkOf s) (sym e) g.chunk) (λ x. r.chunks q x.0) ((k.free q).0 f))

  given-apart : (p q : Chunk) → IsFree t p → IsFree t q → p ≢ q → Apart p q
  given-apart p q f h ne = elim ((k.free p).0 f) [
    | inl e ↦ elim ((k.free q).0 h) [
      | inl i ↦ absurd (ne (e ∙ sym i))
      | inr y ↦ subst (λ (z : Chunk). Apart z q) (sym e) (old-apart q y.0 y.1)
    ]
    | inr x ↦ elim ((k.free q).0 h) [
      | inl i ↦ subst (Apart p) (sym i) (apart-sym k.whole p (old-apart p x.0 x.1))
      | inr y ↦ r.apart p q x.0 y.0 ne
    ]
  ]

  not-own : (w : Chunk) → IsChunkOf s w → buddy w ≡ w → ⊥
  not-own w x e = not-apart-itself w (positive s w x) (subst (Apart w) e (buddies-apart w (positive s w x) x.chunk.aligned))

  given-merged : (q : Chunk) → IsFree t q → q.size < 65536 → IsFree t (buddy q) → ⊥
  given-merged q f small h = elim ((k.free q).0 f) [
    | inl e ↦
        let w : k.whole.size < 65536 = subst (λ (z : Chunk). z.size < 65536) e small in
        elim ((k.free (buddy q)).0 h) [
          | inl i ↦ not-own k.whole g.chunk (sym (ap buddy e) ∙ i)
          | inr y ↦ k.ends w (subst (IsFree s) (ap buddy e) y.0)
        ]
    | inr x ↦ elim ((k.free (buddy q)).0 h) [
      | inl i ↦
          let z : q ≡ buddy k.whole = sym (buddy-of-buddy q (positive s q (r.chunks q x.0)) (r.chunks q x.0).chunk.aligned) ∙ ap buddy i in
          let w : k.whole.size < 65536 = subst (λ (y : Chunk). y.size < 65536) i small in
          k.ends w (subst (IsFree s) z x.0)
      | inr y ↦ r.merged q x.0 small y.0
    ]
  ]

  given-region : IsRegion t
  given-region = record {
    aligned = ap (λ (b : ℕ). b % 65536) k.place.0 ∙ r.aligned;
    fits = omega (arith, r.fits, k.place.0, k.place.1);
    chunks = given-chunks;
    apart = given-apart;
    merged = given-merged;
    listed = k.listed;
  }

  given : Given s c t
  given = record {
    region = given-region;
    place = k.place;
    others = λ d x a. record {
      chunk = chunk-of-same s t d k.place x.chunk;
      apart = λ q f. ⊎_elim (λ e. subst (Apart d) (sym e) (apart-sym k.whole d (g.apart d x a))) (λ y. x.apart q y.0) ((k.free q).0 f);
    };
  }

-- ---- the chunks of a ticket are given back in order

abbrev at : List Piece → ℕ → Chunk
at ps i = (get_or ps i no_piece).chunk

record AllGiven (s : Space) (ps : List Piece) (t : Space) : Type 0 where
  region : IsRegion t
  place : IsSamePlace s t
  others : (d : Chunk) → IsOut s d → ((i : ℕ) → i < length ps → Apart (at ps i) d) → IsOut t d

all-given : (s t : Space) (ps : List Piece) → IsRegion s → ((i : ℕ) → i < length ps → IsOut s (at ps i)) → ((i j : ℕ) → i < length ps → j < length ps → i ≢ j → Apart (at ps i) (at ps j)) → GivesAll s (map (λ (p : Piece). p.chunk) ps) t → AllGiven s ps t
all-given s t [] r o a h = subst (AllGiven s []) (sym h) (record { region = r; place = (refl, refl); others = λ d x y. x })
all-given s t (p ∷ ps) r o a h =
    let one = given s p.chunk h.0 r (o 0 (omega arith)) h.1 in
    let rest = all-given h.0 t ps one.region
    (λ i l. one.others (at ps i) (o (suc i) (omega (arith, l))) (a 0 (suc i) (omega arith) (omega (arith, l)) (omega arith)))
    (λ i j l u ne. a (suc i) (suc j) (omega (arith, l)) (omega (arith, u)) (omega (arith, ne))) h.2 in
    record {
      region = rest.region;
      place = (rest.place.0 ∙ one.place.0, rest.place.1 ∙ one.place.1);
      others = λ d x y. rest.others d (one.others d x (y 0 (omega arith))) (λ i l. y (suc i) (omega (arith, l)));
    }

-- ---- Free

is-within : (ts : List Ticket) (t : ℕ) → lives (get_or ts t no_ticket) ≡ true → (t < length ts) ⊎ (length ts ≤ t) → t < length ts
is-within ts t e (inl l) = l
is-within ts t e (inr l) = let z : true ≡ false = sym e ∙ ap lives (get_or_past ts t no_ticket l) in absurd cc

within-or : (t n : ℕ) → (t < n) ⊎ (n ≤ t)
within-or t n = grind arith

pub free_owns : FreeOwns
free_owns old new t alive f h =
    let k : Ticket = record (ticket old t) { stage = Freed } in
    let tickets : new.tickets ≡ set old.tickets t k = ap (λ (d : DeskState). d.tickets) f.desk in
    let inside = is-within old.tickets t alive (within-or t (length old.tickets)) in
    let gone : ticket new t ≡ k = ap (λ (ts : List Ticket). get_or ts t no_ticket) tickets ∙ get_or-set_same old.tickets t k no_ticket inside in
    let same : (u : ℕ) → u ≢ t → ticket new u ≡ ticket old u = λ u ne. ap (λ (ts : List Ticket). get_or ts u no_ticket) tickets ∙ get_or-set_other old.tickets t u k no_ticket ne in
    let another : (u : ℕ) → lives (ticket new u) ≡ true → u ≢ t = λ u e z. (let y : true ≡ false = sym e ∙ ap (λ (i : ℕ). lives (ticket new i)) z ∙ ap lives gone in absurd cc) in
    let kept : (u i : ℕ) → IsPiece new u i → (u ≢ t) × IsPiece old u i × (piece_at new u i ≡ piece_at old u i) =
    λ u i p. let ne = another u p.0 in let e = same u ne in (ne, (sym (ap lives e) ∙ p.0, subst (λ (y : Ticket). i < length y.pieces) e p.1), ap (λ (y : Ticket). get_or y.pieces i no_piece) e) in
    let x = all-given old.space new.space (ticket old t).pieces h.region (λ i l. h.out t i (alive, l)) (λ i j l u ne. h.apart t t i j (alive, l) (alive, u) (inr ne)) f.gives in
    record {
      region = x.region;
      base = x.place.0 ∙ h.base;
      units = x.place.1 ∙ h.units;
      out = λ u i p. let y = kept u i p in subst (λ (z : Piece). IsOut new.space z.chunk) (sym y.2) (x.others (piece_at old u i).chunk (h.out u i y.1) (λ j l. h.apart t u j i (alive, l) y.1 (inl (λ e. y.0 (sym e)))));
      fits = λ u i p. let y = kept u i p in subst (λ (z : Piece). z.len ≤ z.chunk.size) (sym y.2) (h.fits u i y.1);
      apart = λ u v i j p q ne.
          let y = kept u i p in
          let z = kept v j q in
          subst (λ (e : Piece). Apart e.chunk (piece_at new v j).chunk) (sym y.2) (subst (λ (e : Piece). Apart (piece_at old u i).chunk e.chunk) (sym z.2) (h.apart u v i j y.1 z.1 ne));
    }
