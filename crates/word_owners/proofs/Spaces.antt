-- Build takes free chunks: live tickets go on to own their parts of the buffer region, and no two share a byte.
use Rattle.std.proofs.Common.{◌≡◌, ◌≢◌, ◌⊎◌, inl, inr, ⊎_elim, ℕ, zero, suc, ◌+◌, ◌-◌, ◌*◌, ◌%◌, ◌<◌, ◌≤◌, List, [], ◌∷◌, ◌++◌, length, map, zip, get_or, slice_index, Bool, true, refl, sym, ap, subst, ◌∙◌, arith, lit<, length-append}
use Rattle.std.specs.Prelude.{flat_map}
use Rattle.std.specs.List.{range_with_len}
use Rattle.std.proofs.Math.ListN.{get_or-append}
use Rattle.std.proofs.lemmas.List.{get_or-append-add, get_or_past}
use Rattle.std.proofs.lemmas.List.FromFn.{get_or-range_with_len, length-range_with_len}
use Rattle.rig_types.specs.declared.rig.Unit.{Unit as RigUnit}
use Rattle.dma_buddy.specs.declared.buddies.Chunk.{Chunk}
use Rattle.dma_buddy.specs.Chunks.{Apart, IsWithin}
use Rattle.dma_buddy.specs.Regions.{Space, IsAmong, IsListed, IsChunkOf, IsRegion, IsOut, IsSamePlace, Takes, TakesAll}
use Rattle.dma_buddy.proofs.Intervals.{apart-sym, apart-within, chunk-of-same}
use Rattle.dma_buddy.proofs.Sizes.{aligned-down}
use Rattle.dma_buddy.proofs.TakenChunks.{left-within, fits-in-whole, region-after-take}
use Rattle.desk_law.specs.declared.ticket.Piece.{Piece}
use Rattle.desk_law.specs.declared.ticket.Ticket.{Ticket}
use Rattle.desk_law.specs.Desk.{DeskState, ticket, no_ticket, lives, whole_chunk, desk_opened}
use Rattle.desk_law.specs.Building.{piece, new_ticket}
use Rattle.word_owners.specs.Spaces.{no_piece, piece_at, IsPiece, OwnsSpace, OpeningOwns, BuildOwns, StaysOwned, BuffersOwned}

-- ---- one chunk is taken

module _ (s : Space) (len : ℕ) (c : Chunk) (t : Space) (r : IsRegion s) (k : Takes s len c t) where
  taken-within : IsWithin c k.whole
  taken-within = (omega (arith, k.base), omega (arith, k.base, fits-in-whole s len c t r k))

  taken-chunk : IsChunkOf s c
  taken-chunk =
      let w = r.chunks k.whole k.best.free in
      let f = fits-in-whole s len c t r k in
      record {
        chunk = record {
          size = k.size.one_of;
          aligned = ap (λ (b : ℕ). b % c.size) k.base ∙ aligned-down k.whole.base c.size k.whole.size k.size.one_of w.chunk.size f w.chunk.aligned;
        };
        from = omega (arith, k.base, w.from);
        to = omega (arith, k.base, w.to, f);
      }

  taken-out : IsOut t c
  taken-out = record {
    chunk = chunk-of-same s t c k.place taken-chunk;
    apart = λ d h. ⊎_elim
        (λ o. apart-sym d c (apart-within d c k.whole taken-within (r.apart d k.whole o.0 k.best.free o.1)))
        (λ l. inl (omega (arith, k.base, l.place, l.at_least)))
        ((k.free d).0 h);
  }

  -- a chunk that was out is so still, and apart from it
  others-out : (d : Chunk) → IsOut s d → IsOut t d × Apart d c
  others-out d o = (
    record {
      chunk = chunk-of-same s t d k.place o.chunk;
      apart = λ q h. ⊎_elim
          (λ old. o.apart q old.0)
          (λ l. apart-within d q k.whole (left-within k.whole c q (r.chunks k.whole k.best.free).chunk.size l) (o.apart k.whole k.best.free))
          ((k.free q).0 h);
    },
    apart-within d c k.whole taken-within (o.apart k.whole k.best.free),
  )

-- ---- chunks are taken in order

abbrev at : List Piece → ℕ → Chunk
at ps i = (get_or ps i no_piece).chunk

record TakenAll (s : Space) (ps : List Piece) (t : Space) : Type 0 where
  region : IsRegion t
  place : IsSamePlace s t
  out : (i : ℕ) → i < length ps → IsOut t (at ps i)
  fits : (i : ℕ) → i < length ps → (get_or ps i no_piece).len ≤ (at ps i).size
  apart : (i j : ℕ) → i < length ps → j < length ps → i ≢ j → Apart (at ps i) (at ps j)
  others : (d : Chunk) → IsOut s d → IsOut t d × ((i : ℕ) → i < length ps → Apart d (at ps i))

none-taken : (s t : Space) → t ≡ s → IsRegion s → TakenAll s [] t
none-taken s t e r = subst (TakenAll s []) (sym e) (record {
  region = r;
  place = (refl, refl);
  out = λ i l. absurd (omega (arith, l));
  fits = λ i l. absurd (omega (arith, l));
  apart = λ i j l. absurd (omega (arith, l));
  others = λ d o. (o, λ i l. absurd (omega (arith, l)));
})

one-more : (s m t : Space) (len : ℕ) (c : Chunk) (ps : List Piece) → IsRegion s → Takes s len c m → TakenAll m ps t → TakenAll s (record { chunk = c; len = len } ∷ ps) t
one-more s m t len c ps r k x = record {
  region = x.region;
  place = (x.place.0 ∙ k.place.0, x.place.1 ∙ k.place.1);
  out = outs;
  fits = fit;
  apart = aparts;
  others = λ d o. let one = others-out s len c m r k d o in let rest = x.others d one.0 in (rest.0, other-at d one.1 rest.1);
}
  where
    first : IsOut m c
    first = taken-out s len c m r k

    outs : (i : ℕ) → i < suc (length ps) → IsOut t (at (record { chunk = c; len = len } ∷ ps) i)
    outs zero l = (x.others c first).0
    outs (suc i) l = x.out i (omega (arith, l))

    fit : (i : ℕ) → i < suc (length ps) → (get_or (record { chunk = c; len = len } ∷ ps) i no_piece).len ≤ (at (record { chunk = c; len = len } ∷ ps) i).size
    fit zero l = k.size.suffices
    fit (suc i) l = x.fits i (omega (arith, l))

    aparts : (i j : ℕ) → i < suc (length ps) → j < suc (length ps) → i ≢ j → Apart (at (record { chunk = c; len = len } ∷ ps) i) (at (record { chunk = c; len = len } ∷ ps) j)
    aparts zero zero l u ne = absurd (ne refl)
    aparts zero (suc j) l u ne = (x.others c first).1 j (omega (arith, u))
    aparts (suc i) zero l u ne = apart-sym c (at ps i) ((x.others c first).1 i (omega (arith, l)))
    aparts (suc i) (suc j) l u ne = x.apart i j (omega (arith, l)) (omega (arith, u)) (λ e. ne (ap suc e))

    other-at : (d : Chunk) → Apart d c → ((i : ℕ) → i < length ps → Apart d (at ps i)) → (i : ℕ) → i < suc (length ps) → Apart d (at (record { chunk = c; len = len } ∷ ps) i)
    other-at d a b zero l = a
    other-at d a b (suc i) l = b i (omega (arith, l))

taken-all : (s t : Space) (lens : List ℕ) (cs : List Chunk) → IsRegion s → TakesAll s lens cs t → TakenAll s (map piece (zip cs lens)) t
taken-all s t [] [] r h = none-taken s t h r
taken-all s t [] (c ∷ cs) r h = absurd h
taken-all s t (l ∷ lens) [] r h = absurd h
taken-all s t (l ∷ lens) (c ∷ cs) r h = one-more s h.0 t l c (map piece (zip cs lens)) r h.1 (taken-all h.0 t lens cs (region-after-take s l c h.0 r h.1) h.2)

-- ---- the tickets after Build

dead-none : lives no_ticket ≡ true → ⊥
dead-none e = absurd cc

order : (t n : ℕ) → (t < n) ⊎ ((t ≡ n + 0) ⊎ (n + 1 ≤ t))
order t n = grind arith

-- a ticket of the desk before, the new one, or none
pub ticket-built : (ts : List Ticket) (k : Ticket) (t : ℕ) → ((t < length ts) × (get_or (ts ++ k ∷ []) t no_ticket ≡ get_or ts t no_ticket)) ⊎ (((t ≡ length ts) × (get_or (ts ++ k ∷ []) t no_ticket ≡ k)) ⊎ (get_or (ts ++ k ∷ []) t no_ticket ≡ no_ticket))
ticket-built ts k t = elim (order t (length ts)) [
  | inl l ↦ inl (l, get_or-append ts (k ∷ []) no_ticket t l)
  | inr (inl e) ↦ inr (inl (omega (arith, e), ap (λ (i : ℕ). get_or (ts ++ k ∷ []) i no_ticket) e ∙ get_or-append-add ts (k ∷ []) 0 no_ticket))
  | inr (inr l) ↦ inr (inr (get_or_past (ts ++ k ∷ []) t no_ticket (omega (arith, l, length-append ts (k ∷ [])))))
]

module _ (old new : DeskState) (k : Ticket) (d : new.tickets ≡ old.tickets ++ k ∷ []) (x : TakenAll old.space k.pieces new.space) (h : OwnsSpace old) where
  -- whose piece it is
  data Whose (t i : ℕ) : Type 0 where
    olds : t < length old.tickets → IsPiece old t i → piece_at new t i ≡ piece_at old t i → Whose t i
    news : t ≡ length old.tickets → i < length k.pieces → piece_at new t i ≡ get_or k.pieces i no_piece → Whose t i

  whose : (t i : ℕ) → IsPiece new t i → Whose t i
  whose t i p =
      let e : ticket new t ≡ get_or (old.tickets ++ k ∷ []) t no_ticket = ap (λ (ts : List Ticket). get_or ts t no_ticket) d in
      elim (ticket-built old.tickets k t) [
        | inl l ↦
            let z : ticket new t ≡ ticket old t = e ∙ l.1 in
            olds l.0 (sym (ap lives z) ∙ p.0, subst (λ (y : Ticket). i < length y.pieces) z p.1) (ap (λ (y : Ticket). get_or y.pieces i no_piece) z)
        | inr (inl l) ↦
            let z : ticket new t ≡ k = e ∙ l.1 in
            news l.0 (subst (λ (y : Ticket). i < length y.pieces) z p.1) (ap (λ (y : Ticket). get_or y.pieces i no_piece) z)
        | inr (inr l) ↦ absurd (dead-none (sym (ap lives (e ∙ l)) ∙ p.0))
      ]

  built-owns : OwnsSpace new
  built-owns = record {
    region = x.region;
    base = x.place.0 ∙ h.base;
    units = x.place.1 ∙ h.units;
    out = λ t i p. elim (whose t i p) [
      | olds l q e ↦ subst (λ (y : Piece). IsOut new.space y.chunk) (sym e) (x.others (piece_at old t i).chunk (h.out t i q)).0
      | news z l e ↦ subst (λ (y : Piece). IsOut new.space y.chunk) (sym e) (x.out i l)
    ];
    fits = λ t i p. elim (whose t i p) [
      | olds l q e ↦ subst (λ (y : Piece). y.len ≤ y.chunk.size) (sym e) (h.fits t i q)
      | news z l e ↦ subst (λ (y : Piece). y.len ≤ y.chunk.size) (sym e) (x.fits i l)
    ];
    apart = λ t u i j p q ne. both t u i j ne (whose t i p) (whose u j q);
  }
    where
      pair : (a b c d : Piece) → a ≡ c → b ≡ d → Apart c.chunk d.chunk → Apart a.chunk b.chunk
      pair a b c d e f y = subst (λ (z : Piece). Apart z.chunk b.chunk) (sym e) (subst (λ (z : Piece). Apart c.chunk z.chunk) (sym f) y)

      differ : (t u i j n : ℕ) → t ≡ n → u ≡ n → (t ≢ u) ⊎ (i ≢ j) → i ≢ j
      differ t u i j n e f (inl ne) = absurd (ne (e ∙ sym f))
      differ t u i j n e f (inr ne) = ne

      both : (t u i j : ℕ) → (t ≢ u) ⊎ (i ≢ j) → Whose t i → Whose u j → Apart (piece_at new t i).chunk (piece_at new u j).chunk
      both t u i j ne (olds l q e) (olds m r f) = pair (piece_at new t i) (piece_at new u j) (piece_at old t i) (piece_at old u j) e f (h.apart t u i j q r ne)
      both t u i j ne (olds l q e) (news z m f) = pair (piece_at new t i) (piece_at new u j) (piece_at old t i) (get_or k.pieces j no_piece) e f ((x.others (piece_at old t i).chunk (h.out t i q)).1 j m)
      both t u i j ne (news z l e) (olds m r f) =
          pair (piece_at new t i) (piece_at new u j) (get_or k.pieces i no_piece) (piece_at old u j) e f (apart-sym (piece_at old u j).chunk (at k.pieces i) ((x.others (piece_at old u j).chunk (h.out u j r)).1 i l))
      both t u i j ne (news z l e) (news y m f) = pair (piece_at new t i) (piece_at new u j) (get_or k.pieces i no_piece) (get_or k.pieces j no_piece) e f (x.apart i j l m (differ t u i j (length old.tickets) z y ne))

pub build_owns : BuildOwns
build_owns old new memory memory' l r t b h =
    let k = new_ticket old l r b.chunks in
    built-owns old new k (ap (λ (d : DeskState). d.tickets) b.desk) (taken-all old.space new.space r.segments b.chunks h.region b.takes) h

-- ---- other steps

pub stays_owned : StaysOwned
stays_owned old new e f h =
    let same : (t i : ℕ) → IsPiece new t i → IsPiece old t i × (piece_at new t i ≡ piece_at old t i) =
    λ t i p. let x = f t p.0 in ((x.0, subst (λ (ps : List Piece). i < length ps) x.1 p.1), ap (λ (ps : List Piece). get_or ps i no_piece) x.1) in
    record {
      region = subst IsRegion (sym e) h.region;
      base = ap (λ (s : Space). s.base) e ∙ h.base;
      units = ap (λ (s : Space). s.units) e ∙ h.units;
      out = λ t i p. let x = same t i p in subst (λ (s : Space). IsOut s (piece_at new t i).chunk) (sym e) (subst (λ (y : Piece). IsOut old.space y.chunk) (sym x.1) (h.out t i x.0));
      fits = λ t i p. let x = same t i p in subst (λ (y : Piece). y.len ≤ y.chunk.size) (sym x.1) (h.fits t i x.0);
      apart = λ t u i j p q ne.
          let x = same t i p in
          let y = same u j q in
          subst (λ (z : Piece). Apart z.chunk (piece_at new u j).chunk) (sym x.1) (subst (λ (z : Piece). Apart (piece_at old t i).chunk z.chunk) (sym y.1) (h.apart t u i j x.0 y.0 ne));
    }

-- ---- the buffers

abbrev addresses : List Piece → List ℕ
addresses ps = flat_map (λ (p : Piece). range_with_len p.chunk.base p.len) ps

-- an address of a buffer lies in one of its pieces
record InPiece (ps : List Piece) (a : ℕ) : Type 0 where
  piece : ℕ
  inside : piece < length ps
  from : (at ps piece).base ≤ a
  to : a < (at ps piece).base + (get_or ps piece no_piece).len

before-or : (i n : ℕ) → (i < n) ⊎ (n ≤ i)
before-or i n = grind arith

in-piece : (ps : List Piece) (i : ℕ) → i < length (addresses ps) → InPiece ps (slice_index (addresses ps) i)
in-piece [] i l = absurd (omega (arith, l))
in-piece (p ∷ ps) i l =
    let r : List ℕ = range_with_len p.chunk.base p.len in
    let n : length r ≡ p.len = length-range_with_len p.chunk.base p.len in
    elim (before-or i p.len) [
      | inl k ↦
          let e : slice_index (r ++ addresses ps) i ≡ p.chunk.base + i = get_or-append r (addresses ps) 0 i (omega (arith, n, k)) ∙ get_or-range_with_len p.chunk.base p.len i 0 k in
          record { piece = 0; inside = omega arith; from = omega (arith, e); to = omega (arith, e, k) }
      | inr k ↦
          let j = i - p.len in
          let z : length r + j ≡ i = omega (arith, n, k) in
          let e : slice_index (r ++ addresses ps) i ≡ slice_index (addresses ps) j = ap (λ (y : ℕ). get_or (r ++ addresses ps) y 0) (sym z) ∙ get_or-append-add r (addresses ps) j 0 in
          let x = in-piece ps j (omega (arith, l, n, k, length-append r (addresses ps))) in
          record { piece = suc x.piece; inside = omega (arith, x.inside); from = omega (arith, e, x.from); to = omega (arith, e, x.to) }
    ]

pub buffers_owned : BuffersOwned
buffers_owned d h = record {
  within = λ t i l k.
      let x = in-piece (ticket d t).pieces i k in
      let o = (h.out t x.piece (l, x.inside)).chunk in
      let f = h.fits t x.piece (l, x.inside) in
      (omega (arith, x.from, o.from, h.base), omega (arith, x.to, o.to, f, h.base, h.units));
  apart = λ t u i j l m ne k n e.
      let x = in-piece (ticket d t).pieces i k in
      let y = in-piece (ticket d u).pieces j n in
      let f = h.fits t x.piece (l, x.inside) in
      let g = h.fits u y.piece (m, y.inside) in
      elim (h.apart t u x.piece y.piece (l, x.inside) (m, y.inside) (inl ne)) [
        | inl a ↦ absurd (omega (arith, a, e, x.from, x.to, y.from, y.to, f, g))
        | inr a ↦ absurd (omega (arith, a, e, x.from, x.to, y.from, y.to, f, g))
      ];
}

-- ---- the opening

among-whole : (n k : ℕ) (c : Chunk) → IsAmong (map whole_chunk (range_with_len k n)) c → (i : ℕ) × (k ≤ i) × (i < k + n) × (c ≡ whole_chunk i)
among-whole zero k c h = absurd h
among-whole (suc n) k c (inl e) = (k, omega arith, omega arith, e)
among-whole (suc n) k c (inr h) = let x = among-whole n (k + 1) c h in (x.0, omega (arith, x.1), omega (arith, x.2), x.3)

listed-whole : (n k : ℕ) → IsListed (map whole_chunk (range_with_len k n))
listed-whole zero k = tt
listed-whole (suc n) k = (
  λ c h.
      let x = among-whole n (k + 1) c h in
      let s : c.size ≡ 65536 = ap (λ (y : Chunk). y.size) x.3 in
      let b : c.base ≡ 0x200000 + 65536 * x.0 = ap (λ (y : Chunk). y.base) x.3 in
      inr (sym s, omega (arith, b, x.1)),
  listed-whole n (k + 1),
)

order-of : (i j : ℕ) → i ≢ j → (i < j) ⊎ (j < i)
order-of i j ne = grind arith

whole-apart : (i j : ℕ) → (i < j) ⊎ (j < i) → Apart (whole_chunk i) (whole_chunk j)
whole-apart i j (inl l) = inl (omega arith)
whole-apart i j (inr l) = inr (omega arith)

opened-region : (version : ℕ) (units : List RigUnit) (retries : ℕ) (autosense : Bool) (submitters : ℕ) → IsRegion (desk_opened version units retries autosense submitters).space
opened-region version units retries autosense submitters = record {
  aligned = refl;
  fits = lit< tt;
  chunks = λ c h.
      let x = among-whole 32 0 c h in
      let s : c.size ≡ 65536 = ap (λ (y : Chunk). y.size) x.3 in
      let b : c.base ≡ 0x200000 + 65536 * x.0 = ap (λ (y : Chunk). y.base) x.3 in
      record { chunk = record { size = (7, lit< tt, s); aligned = ap (λ (y : ℕ). c.base % y) s ∙ omega (arith, b) }; from = omega (arith, b); to = omega (arith, b, s, x.2) };
  apart = λ c d h k ne.
      let x = among-whole 32 0 c h in
      let y = among-whole 32 0 d k in
      let z : x.0 ≢ y.0 = λ e. ne (x.3 ∙ ap whole_chunk e ∙ sym y.3) in
      subst (λ (q : Chunk). Apart q d) (sym x.3) (subst (λ (q : Chunk). Apart (whole_chunk x.0) q) (sym y.3) (whole-apart x.0 y.0 (order-of x.0 y.0 z)));
  merged = λ c h l k.
      let x = among-whole 32 0 c h in
      let s : c.size ≡ 65536 = ap (λ (y : Chunk). y.size) x.3 in
      omega (arith, s, l);
  listed = listed-whole 32 0;
}

pub opening_owns : OpeningOwns
opening_owns version units retries autosense submitters = record {
  region = opened-region version units retries autosense submitters;
  base = refl;
  units = refl;
  out = λ t i p. absurd (dead-none p.0);
  fits = λ t i p. absurd (dead-none p.0);
  apart = λ t u i j p q ne. absurd (dead-none p.0);
}
