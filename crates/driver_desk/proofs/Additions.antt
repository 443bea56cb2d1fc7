-- A ticket is built: what is kept of the others stays, and it has the least free block and tag.
use Rattle.std.proofs.Common.{arith, ◌≡◌, ◌≢◌, ℕ, zero, suc, ◌+◌, ◌<◌, ◌≤◌, Bool, true, false, cond, not, List, [], ◌∷◌, ◌++◌, map, length, Option, Some, None, refl, sym, ap, subst, ◌∙◌, get_or, set, append-nil, length-set, get_or-set_same, get_or-set_other, ⊎_elim}
use Rattle.std.specs.Prelude.{All, position, find, sum, count_by, zip, unwrap_or, Result, Ok, Err, MatchResult, IfOk}
use Rattle.std.specs.List.{list_any, range_with_len}
use Rattle.std.proofs.lemmas.Bool.{cases_lt}
use Rattle.std.proofs.lemmas.List.Elements.{All-push}
use Rattle.std.proofs.lemmas.List.{length-map, map-append, get_or_default, length_push}
use Rattle.std.proofs.lemmas.List.Sums.{sum_by-cons}
use Rattle.std.proofs.lemmas.List.Concat.{flat_map-append}
use Rattle.std.proofs.lemmas.List.Folds.{list_any_none, list_any_at}
use Rattle.std.proofs.lemmas.List.Quantifiers.{position-Some}
use Rattle.rig_types.specs.declared.rig.Unit.{Unit as RigUnit}
use Rattle.dma_buddy.specs.declared.buddies.Chunk.{Chunk}
use Rattle.dma_buddy.specs.Regions.{Space, AreOut, TakesAll, RefusesAt, LeavesAllOut, IsSamePlace}
use Rattle.dma_buddy.proofs.Held.{held-more}
use Rattle.desk_law.specs.declared.ticket.Piece.{Piece}
use Rattle.desk_law.specs.declared.ticket.Ticket.{Ticket}
use Rattle.desk_law.specs.Desk.{DeskState, no_ticket, no_unit, lives, is_of_unit}
use Rattle.desk_law.specs.Building.{piece, first_free}
use Rattle.driver_desk.specs.declared.reporting.Room.{Room}
use Rattle.driver_desk.specs.Kept.{total, IsTicket, IsIndex, IsDesk}
use Rattle.driver_desk.specs.Held.{core, at, block_key, tag_key, piece_chunks, held_by, held, IsBuffer, HasRoom, more, IsHeld, IsKept}
use Rattle.driver_desk.specs.Conditions.{AreFor}
use Rattle.driver_desk.proofs.LiveCounts.{counted-built}
use Rattle.driver_desk.proofs.FreedTickets.{out-left}
use Rattle.driver_desk.proofs.Keys.{keyed-built, by_place, none-passes, not-none, lives-core, index_from}

-- ---- the least free number

by-bool : (b : Bool) → (b ≡ true → ⊥) → b ≡ false
by-bool true h = absurd (h refl)
by-bool false h = refl

pub any-none : (p : Ticket → Bool) (xs : List Ticket) → position p xs ≡ None → list_any p xs ≡ false
any-none p xs e = list_any_none p xs (λ i d low. by-bool (p (get_or xs i d)) (λ so.
    none-passes p xs i e low (subst (λ (x : Ticket). p x ≡ true) (get_or_default xs i d no_ticket low) so)))

pub any-some : (p : Ticket → Bool) (xs : List Ticket) (i : ℕ) → position p xs ≡ Some i → list_any p xs ≡ true
any-some p xs i e = let q = position-Some p xs i no_ticket e in list_any_at p xs i no_ticket q.0 q.1

skips : (b : Bool) (x : ℕ) (o : Option ℕ) → b ≡ true → cond (not b) (Some x) o ≡ o
skips true x o e = refl
skips false x o e = absurd cc

stops : (b : Bool) (x : ℕ) (o : Option ℕ) → b ≡ false → cond (not b) (Some x) o ≡ Some x
stops true x o e = absurd cc
stops false x o e = refl

found-at : (taken : ℕ → Bool) (f : ℕ → ℕ) (a n j : ℕ) → a ≤ j → j < a + n → taken (f j) ≡ false → ((i : ℕ) → a ≤ i → i < j → taken (f i) ≡ true)
    → find (λ (x : ℕ). not (taken x)) (map f (range_with_len a n)) ≡ Some (f j)
found-at taken f a zero j low high free all = absurd (omega (arith, low, high))
found-at taken f a (suc n) j low high free all =
    ⊎_elim
    (λ (l : a < j). skips (taken (f a)) (f a) _ (all a (omega arith) l) ∙ found-at taken f (a + 1) n j (omega (arith, l)) (omega (arith, high)) free (λ i le lt. all i (omega (arith, le)) lt))
    (λ (g : j ≤ a). let e : j ≡ a = omega (arith, low, g) in
    stops (taken (f a)) (f a) _ (subst (λ (x : ℕ). taken (f x) ≡ false) e free) ∙ ap (λ (x : ℕ). Some (f x)) (sym e))
    (cases_lt a j)

pub first-free : (taken : ℕ → Bool) (f : ℕ → ℕ) (n j : ℕ) → j < n → taken (f j) ≡ false → ((i : ℕ) → i < j → taken (f i) ≡ true)
    → first_free taken (map f (range_with_len 0 n)) ≡ f j
first-free taken f n j high free all = ap (λ (o : Option ℕ). unwrap_or o 0) (found-at taken f 0 n j (omega arith) (omega (arith, high)) free (λ i low l. all i l))

-- ---- the chunks of a request

pub takes-place : (s t : Space) (lens : List ℕ) (cs : List Chunk) → TakesAll s lens cs t → IsSamePlace s t
takes-place s t [] [] k = (ap (λ (x : Space). x.base) k, ap (λ (x : Space). x.units) k)
takes-place s t [] (c ∷ cs) k = absurd k
takes-place s t (l ∷ ls) [] k = absurd k
takes-place s t (l ∷ ls) (c ∷ cs) k = let r = takes-place k.0 t ls cs k.2 in (r.0 ∙ k.1.place.0, r.1 ∙ k.1.place.1)

pub takes-count : (s t : Space) (lens : List ℕ) (cs : List Chunk) → TakesAll s lens cs t → length cs ≡ length lens
takes-count s t [] [] k = refl
takes-count s t [] (c ∷ cs) k = absurd k
takes-count s t (l ∷ ls) [] k = absurd k
takes-count s t (l ∷ ls) (c ∷ cs) k = ap suc (takes-count k.0 t ls cs k.2)

pub takes-chunks : (s t : Space) (lens : List ℕ) (cs : List Chunk) → TakesAll s lens cs t → piece_chunks (map piece (zip cs lens)) ≡ cs
takes-chunks s t [] [] k = refl
takes-chunks s t [] (c ∷ cs) k = absurd k
takes-chunks s t (l ∷ ls) [] k = absurd k
takes-chunks s t (l ∷ ls) (c ∷ cs) k = ap (λ (xs : List Chunk). c ∷ xs) (takes-chunks k.0 t ls cs k.2)

pub takes-total : (s t : Space) (lens : List ℕ) (cs : List Chunk) → TakesAll s lens cs t → total (map piece (zip cs lens)) ≡ sum lens
takes-total s t [] [] k = refl
takes-total s t [] (c ∷ cs) k = absurd k
takes-total s t (l ∷ ls) [] k = absurd k
takes-total s t (l ∷ ls) (c ∷ cs) k =
    sum_by-cons (λ (p : Piece). p.len) (piece (c, l)) (map piece (zip cs ls)) ∙ ap (λ (n : ℕ). l + n) (takes-total k.0 t ls cs k.2)
    ∙ sym (sum_by-cons (λ (n : ℕ). n) l ls)

all-cons : (p : Piece) (ps : List Piece) → p.len ≤ p.chunk.size → All (λ (q : Piece). q.len ≤ q.chunk.size) ps → All (λ (q : Piece). q.len ≤ q.chunk.size) (p ∷ ps)
all-cons p ps first rest zero d low = first
all-cons p ps first rest (suc i) d low = rest i d (omega (arith, low))

pub takes-fit : (s t : Space) (lens : List ℕ) (cs : List Chunk) → TakesAll s lens cs t → All (λ (p : Piece). p.len ≤ p.chunk.size) (map piece (zip cs lens))
takes-fit s t [] [] k = λ i d low. absurd (omega (arith, low))
takes-fit s t [] (c ∷ cs) k = absurd k
takes-fit s t (l ∷ ls) [] k = absurd k
takes-fit s t (l ∷ ls) (c ∷ cs) k = all-cons (piece (c, l)) (map piece (zip cs ls)) k.1.size.suffices (takes-fit k.0 t ls cs k.2)

pub takes-length : (s t : Space) (lens : List ℕ) (cs : List Chunk) → TakesAll s lens cs t → length (map piece (zip cs lens)) ≡ length lens
takes-length s t [] [] k = refl
takes-length s t [] (c ∷ cs) k = absurd k
takes-length s t (l ∷ ls) [] k = absurd k
takes-length s t (l ∷ ls) (c ∷ cs) k = ap suc (takes-length k.0 t ls cs k.2)

pub chunks_for : (d : DeskState) (s : Space) (lens : List ℕ) (cs : List Chunk) → TakesAll s lens cs d.space → LeavesAllOut s cs d.space
    → AreOut s (held (map core d.tickets)) → AreFor d cs lens
chunks_for d s lens cs k leaves out = record {
  same = takes-chunks s d.space lens cs k;
  count = takes-length s d.space lens cs k;
  total = takes-total s d.space lens cs k;
  fits = takes-fit s d.space lens cs k;
  out = held-more s d.space (held (map core d.tickets)) cs out leaves;
}

-- another region in the same place, with the chunks of all tickets out
pub kept_in : (version : ℕ) (us : List RigUnit) (retries : ℕ) (bb bt : List (Option ℕ)) (rooms : List (Option Room)) (counts : List ℕ) (space space' : Space) (xs : List Ticket)
    → IsKept version us retries bb bt rooms counts space xs → IsSamePlace space space' → AreOut space' (held (map core xs))
    → IsKept version us retries bb bt rooms counts space' xs
kept_in version us retries bb bt rooms counts space space' xs h place out = record {
  rig = h.rig;
  blocks = h.blocks;
  tags = h.tags;
  bytes = h.bytes;
  buffers = h.buffers;
  places = h.places;
  reports = h.reports;
  counted = h.counted;
  base = place.0 ∙ h.base;
  chunks = place.1 ∙ h.chunks;
  out = out;
}

-- chunks are taken, or the region stays, as seen from the desk before, which is d
abbrev pub TakenOr : (seen d : DeskState) → Space → List ℕ → Result (List Chunk) ℕ → Type 0
TakenOr seen d t lens x =
    MatchResult x (λ (cs : List Chunk). TakesAll d.space lens cs t × AreFor (record seen { space = t }) cs lens × (record seen { space = t } ≡ record d { space = t }))
    (λ (len : ℕ). (record seen { space = t } ≡ d) × RefusesAt d.space lens len)

pub chunks_or : (d : DeskState) (t : Space) (lens : List ℕ) (x : Result (List Chunk) ℕ) → AreOut d.space (held (map core d.tickets))
    → MatchResult x (λ cs. TakesAll d.space lens cs t) (λ len. (t ≡ d.space) × RefusesAt d.space lens len) → IfOk x (λ cs. LeavesAllOut d.space cs t)
    → TakenOr d d t lens x
chunks_or d t lens (Ok cs) out k o = (k, chunks_for (record d { space = t }) d.space lens cs k o out, refl)
chunks_or d t lens (Err len) out k o = (ap (λ (s : Space). record d { space = s }) k.0, k.1)

pub kept_or : (version : ℕ) (us : List RigUnit) (retries : ℕ) (bb bt : List (Option ℕ)) (rooms : List (Option Room)) (counts : List ℕ) (space t : Space) (xs : List Ticket)
    (lens : List ℕ) (x : Result (List Chunk) ℕ) → IsKept version us retries bb bt rooms counts space xs
    → MatchResult x (λ cs. TakesAll space lens cs t) (λ len. (t ≡ space) × RefusesAt space lens len) → IfOk x (λ cs. LeavesAllOut space cs t)
    → IsKept version us retries bb bt rooms counts t xs
kept_or version us retries bb bt rooms counts space t xs lens (Ok cs) h k o =
    kept_in version us retries bb bt rooms counts space t xs h (takes-place space t lens cs k)
    (out-left t (held (map core xs)) cs (held-more space t (held (map core xs)) cs h.out o))
kept_or version us retries bb bt rooms counts space t xs lens (Err len) h k o =
    subst (λ (s : Space). IsKept version us retries bb bt rooms counts s xs) (sym k.0) h

-- ---- all of it

pub held-built : (version : ℕ) (us : List RigUnit) (retries : ℕ) (bb bt : List (Option ℕ)) (rooms : List (Option Room)) (counts : List ℕ) (space : Space) (ys : List Ticket) (k : Ticket) (room : Room)
    → IsHeld version us retries bb bt rooms counts space ys → lives k ≡ true → block_key k < 256 → tag_key k < 4096 → get_or bb (block_key k) None ≡ None → get_or bt (tag_key k) None ≡ None
    → k.tag < 256 → IsBuffer k → HasRoom (Some room) k → count_by (is_of_unit k.unit) ys < (get_or us k.unit no_unit).depth → AreOut space (held ys ++ piece_chunks k.pieces)
    → IsHeld version us retries (set bb (block_key k) (Some (length ys))) (set bt (tag_key k) (Some (length ys))) (set rooms (block_key k) (Some room)) (more counts k.unit) space (ys ++ k ∷ [])
held-built version us retries bb bt rooms counts space ys k room h live small few free_b free_t byte buffer has some out =
    let mine : held_by k ≡ piece_chunks k.pieces = ap (λ (b : Bool). cond b (piece_chunks k.pieces) []) live in
    let joined : held (ys ++ k ∷ []) ≡ held ys ++ piece_chunks k.pieces =
    flat_map-append held_by ys (k ∷ []) ∙ ap (λ (cs : List Chunk). held ys ++ cs) (append-nil (held_by k) ∙ mine) in
    let room_at : get_or (set rooms (block_key k) (Some room)) (block_key k) None ≡ Some room =
    get_or-set_same rooms (block_key k) (Some room) None (omega (arith, small, h.places)) in
    record {
      rig = h.rig;
      blocks = keyed-built 256 block_key bb ys (block_key k) k h.blocks small free_b refl live;
      tags = keyed-built 4096 tag_key bt ys (tag_key k) k h.tags few free_t refl live;
      bytes = All-push (λ (x : Ticket). x.tag < 256) ys k h.bytes byte;
      buffers = All-push IsBuffer ys k h.buffers buffer;
      places = length-set rooms (block_key k) (Some room) ∙ h.places;
      reports = by_place ys k (λ (i : ℕ) (x : Ticket). lives x ≡ true → HasRoom (get_or (set rooms (block_key k) (Some room)) (block_key x) None) x)
          (λ i low l.
          let apart : block_key (at ys i) ≢ block_key k = λ e.
          not-none i (sym (ap (λ (n : ℕ). get_or bb n None) e ∙ free_b) ∙ h.blocks.found i low l) in
          subst (λ (o : Option Room). HasRoom o (at ys i)) (sym (get_or-set_other rooms (block_key k) (block_key (at ys i)) (Some room) None apart)) (h.reports i low l))
          (λ l. subst (λ (o : Option Room). HasRoom o k) (sym room_at) has);
      counted = counted-built us counts ys k h.counted live some;
      base = h.base;
      chunks = h.chunks;
      out = subst (λ (cs : List Chunk). AreOut space cs) (sym joined) out;
    }

-- ---- the desk

pub desk_built : (units submitters retries put take callers : ℕ) (bb bt : List (Option ℕ)) (version : ℕ) (us : List RigUnit) (rooms : List (Option Room)) (counts : List ℕ) (space : Space)
    (xs : List Ticket) (k : Ticket) (room : Room)
    → IsDesk units submitters retries put take callers xs × IsIndex bb bt xs × IsKept version us retries bb bt rooms counts space xs
    → length xs + 1 < 4294967296 → IsTicket units submitters retries k → lives k ≡ true → k.tag < 256 → get_or bb (block_key k) None ≡ None → get_or bt (tag_key k) None ≡ None
    → IsBuffer k → HasRoom (Some room) k → count_by (is_of_unit k.unit) (map core xs) < (get_or us k.unit no_unit).depth
    → AreOut space (held (map core xs) ++ piece_chunks k.pieces)
    → IsDesk units submitters retries put take callers (xs ++ k ∷ [])
    × IsIndex (set bb (block_key k) (Some (length xs))) (set bt (tag_key k) (Some (length xs))) (xs ++ k ∷ [])
    × IsKept version us retries (set bb (block_key k) (Some (length xs))) (set bt (tag_key k) (Some (length xs))) (set rooms (block_key k) (Some room)) (more counts k.unit) space (xs ++ k ∷ [])
desk_built units submitters retries put take callers bb bt version us rooms counts space xs k room h few is live byte free_b free_t buffer has some out =
    let all : All (IsTicket units submitters retries) (xs ++ k ∷ []) = All-push (IsTicket units submitters retries) xs k h.0.each_ticket is in
    let small : block_key k < 256 = omega (arith, is.block.from, is.block.below) in
    let low : tag_key k < 4096 = omega (arith, is.unit, h.0.few_units, byte) in
    let made = held-built version us retries bb bt rooms counts space (map core xs) (core k) room h.2 (lives-core k ∙ live) small low free_b free_t byte
    (record { fits = buffer.fits; most = buffer.most }) has some out in
    let kept : IsKept version us retries (set bb (block_key k) (Some (length xs))) (set bt (tag_key k) (Some (length xs))) (set rooms (block_key k) (Some room)) (more counts k.unit) space (xs ++ k ∷ []) =
    subst (λ (zs : List Ticket). IsHeld version us retries (set bb (block_key k) (Some (length xs))) (set bt (tag_key k) (Some (length xs))) (set rooms (block_key k) (Some room)) (more counts k.unit) space zs)
    (sym (map-append core xs (k ∷ [])))
    (subst (λ (n : ℕ). IsHeld version us retries (set bb (block_key k) (Some n)) (set bt (tag_key k) (Some n)) (set rooms (block_key k) (Some room)) (more counts k.unit) space (map core xs ++ core k ∷ []))
    (length-map xs core) made) in (
      record {
        few_units = h.0.few_units;
        few_retries = h.0.few_retries;
        put_slot = h.0.put_slot;
        take_slot = h.0.take_slot;
        all_callers = h.0.all_callers;
        few_tickets = omega (arith, few, length_push xs k);
        each_ticket = all;
      },
      index_from units submitters retries (set bb (block_key k) (Some (length xs))) (set bt (tag_key k) (Some (length xs))) (xs ++ k ∷ []) all kept.bytes kept.blocks kept.tags,
      kept,
    )
