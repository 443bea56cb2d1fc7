-- A ticket is freed: what is kept of the others stays.
use Rattle.std.proofs.Common.{arith, ◌≡◌, ◌≢◌, ℕ, zero, suc, ◌+◌, ◌<◌, ◌≤◌, Bool, true, false, cond, not, List, [], ◌∷◌, ◌++◌, map, length, Option, Some, None, refl, sym, ap, subst, ◌∙◌, get_or, set, length-set, get_or-set_other}
use Rattle.std.specs.Prelude.{All}
use Rattle.std.proofs.lemmas.List.{append_assoc, length-map, map-set, get_or_default}
use Rattle.std.proofs.lemmas.List.Elements.{All-set}
use Rattle.rig_types.specs.declared.rig.Unit.{Unit as RigUnit}
use Rattle.host_map.specs.Places.{IsCommandBlock}
use Rattle.dma_buddy.specs.declared.buddies.Chunk.{Chunk}
use Rattle.dma_buddy.specs.Regions.{Space, AreOut, AreApart, IsSamePlace}
use Rattle.dma_buddy.proofs.Sets.{among-left, among-right}
use Rattle.desk_law.specs.declared.ticket.Piece.{Piece}
use Rattle.desk_law.specs.declared.ticket.Ticket.{Ticket}
use Rattle.desk_law.specs.Desk.{no_ticket, lives, is_freed}
use Rattle.driver_desk.specs.declared.reporting.Room.{Room}
use Rattle.desk_law.specs.declared.stage.Stage.TheVariants.{Unlinked, Freed}
use Rattle.driver_desk.specs.Kept.{total, IsTicket, IsIndex, IsDesk}
use Rattle.driver_desk.specs.Held.{core, at, Keyed, block_key, tag_key, piece_chunks, held_by, held, IsBuffer, HasRoom, less, IsHeld, IsKept}
use Rattle.driver_desk.proofs.Keys.{other, keyed-freed, lives-core, at-core, same-some, index_from}
use Rattle.driver_desk.proofs.Index.{tries_of}
use Rattle.driver_desk.proofs.LiveCounts.{counted-freed, one_lives}
use Rattle.driver_desk.proofs.GivenBack.{pieces_inside}
use Rattle.desk_law.specs.declared.stage.Stage.{Stage}

-- ---- chunks that are out

apart-right : (xs ys : List Chunk) → AreApart (xs ++ ys) → AreApart ys
apart-right [] ys h = h
apart-right (x ∷ xs) ys h = apart-right xs ys h.1

apart-left : (xs ys : List Chunk) → AreApart (xs ++ ys) → AreApart xs
apart-left [] ys h = tt
apart-left (x ∷ xs) ys h = ((λ d i. h.0 d (among-left xs ys d i)), apart-left xs ys h.1)

pub out-right : (s : Space) (xs ys : List Chunk) → AreOut s (xs ++ ys) → AreOut s ys
out-right s xs ys h = record { out = λ c i. h.out c (among-right xs ys c i); apart = apart-right xs ys h.apart }

pub out-left : (s : Space) (xs ys : List Chunk) → AreOut s (xs ++ ys) → AreOut s xs
out-left s xs ys h = record { out = λ c i. h.out c (among-left xs ys c i); apart = apart-left xs ys h.apart }

-- the chunks of all tickets before one, and behind it
pub record Around (ys : List Ticket) (t : ℕ) (k : Ticket) : Type 0 where
  pub before : List Chunk
  pub behind : List Chunk
  pub was : held ys ≡ before ++ (held_by (at ys t) ++ behind)
  pub becomes : held (set ys t k) ≡ before ++ (held_by k ++ behind)

pub around : (ys : List Ticket) (t : ℕ) (k : Ticket) → t < length ys → Around ys t k
around [] t k low = absurd (omega (arith, low))
around (y ∷ ys) zero k low = record { before = []; behind = held ys; was = refl; becomes = refl }
around (y ∷ ys) (suc t) k low =
    let r = around ys t k (omega (arith, low)) in
    record {
      before = held_by y ++ r.before;
      behind = r.behind;
      was = ap (λ (cs : List Chunk). held_by y ++ cs) r.was ∙ sym (append_assoc (held_by y) r.before (held_by (at ys t) ++ r.behind));
      becomes = ap (λ (cs : List Chunk). held_by y ++ cs) r.becomes ∙ sym (append_assoc (held_by y) r.before (held_by k ++ r.behind));
    }

held-live : (k : Ticket) → lives k ≡ true → held_by k ≡ piece_chunks k.pieces
held-live k e = ap (λ (b : Bool). cond b (piece_chunks k.pieces) []) e

held-dead : (k : Ticket) → lives k ≡ false → held_by k ≡ []
held-dead k e = ap (λ (b : Bool). cond b (piece_chunks k.pieces) []) e

-- ---- rooms

rooms-freed : (bb : List (Option ℕ)) (rooms : List (Option Room)) (ys : List Ticket) (t : ℕ) (k : Ticket) → Keyed 256 block_key bb ys → t < length ys → lives (at ys t) ≡ true
    → lives k ≡ false → ((i : ℕ) → i < length ys → lives (at ys i) ≡ true → HasRoom (get_or rooms (block_key (at ys i)) None) (at ys i))
    → (i : ℕ) → i < length (set ys t k) → lives (at (set ys t k) i) ≡ true
    → HasRoom (get_or (set rooms (block_key (at ys t)) None) (block_key (at (set ys t k) i)) None) (at (set ys t k) i)
rooms-freed bb rooms ys t k h there live dead all i low l =
    let q = other ys t i k there dead low l in
    let li : lives (at ys i) ≡ true = subst (λ (x : Ticket). lives x ≡ true) q.same l in
    let apart : block_key (at ys i) ≢ block_key (at ys t) = λ e.
    q.differs (same-some i t (sym (h.found i q.below li) ∙ ap (λ (n : ℕ). get_or bb n None) e ∙ h.found t there live)) in
    subst (λ (x : Ticket). HasRoom (get_or (set rooms (block_key (at ys t)) None) (block_key x) None) x) (sym q.same)
    (subst (λ (o : Option Room). HasRoom o (at ys i)) (sym (get_or-set_other rooms (block_key (at ys t)) (block_key (at ys i)) None None apart)) (all i q.below li))

-- ---- all of it

pub held-freed : (version : ℕ) (us : List RigUnit) (retries : ℕ) (bb bt : List (Option ℕ)) (rooms : List (Option Room)) (counts : List ℕ) (space space' : Space) (ys : List Ticket) (t : ℕ) (k : Ticket)
    → IsHeld version us retries bb bt rooms counts space ys → t < length ys → lives (at ys t) ≡ true → lives k ≡ false → k.tag ≡ (at ys t).tag → k.pieces ≡ (at ys t).pieces
    → IsSamePlace space space'
    → ((xs zs : List Chunk) → AreOut space (xs ++ (piece_chunks (at ys t).pieces ++ zs)) → AreOut space' (xs ++ zs))
    → IsHeld version us retries (set bb (block_key (at ys t)) None) (set bt (tag_key (at ys t)) None) (set rooms (block_key (at ys t)) None) (less counts (at ys t).unit) space' (set ys t k)
held-freed version us retries bb bt rooms counts space space' ys t k h there live dead tag pieces place others =
    let a = around ys t k there in
    let was : held ys ≡ a.before ++ (piece_chunks (at ys t).pieces ++ a.behind) =
    a.was ∙ ap (λ (cs : List Chunk). a.before ++ (cs ++ a.behind)) (held-live (at ys t) live) in
    let becomes : held (set ys t k) ≡ a.before ++ a.behind = a.becomes ∙ ap (λ (cs : List Chunk). a.before ++ (cs ++ a.behind)) (held-dead k dead) in
    record {
      rig = h.rig;
      blocks = keyed-freed 256 block_key bb ys t k h.blocks there live dead;
      tags = keyed-freed 4096 tag_key bt ys t k h.tags there live dead;
      bytes = All-set (λ (x : Ticket). x.tag < 256) ys t k (subst (λ (n : ℕ). n < 256) (sym tag) (h.bytes t no_ticket there)) h.bytes;
      buffers = All-set IsBuffer ys t k
          (record {
            fits = subst (λ (ps : List Piece). All (λ (p : Piece). p.len ≤ p.chunk.size) ps) (sym pieces) (h.buffers t no_ticket there).fits;
            most = subst (λ (ps : List Piece). total ps ≤ 65536) (sym pieces) (h.buffers t no_ticket there).most;
          })
          h.buffers;
      places = length-set rooms (block_key (at ys t)) None ∙ h.places;
      reports = rooms-freed bb rooms ys t k h.blocks there live dead h.reports;
      counted = counted-freed us counts ys t k h.counted there live dead;
      base = place.0 ∙ h.base;
      chunks = place.1 ∙ h.chunks;
      out = subst (λ (cs : List Chunk). AreOut space' cs) (sym becomes) (others a.before a.behind (subst (λ (cs : List Chunk). AreOut space cs) was h.out));
    }

-- the chunks of one live ticket are out
pub buffer-out : (version : ℕ) (us : List RigUnit) (retries : ℕ) (bb bt : List (Option ℕ)) (rooms : List (Option Room)) (counts : List ℕ) (space : Space) (ys : List Ticket) (t : ℕ)
    → IsHeld version us retries bb bt rooms counts space ys → t < length ys → lives (at ys t) ≡ true → AreOut space (piece_chunks (at ys t).pieces)
buffer-out version us retries bb bt rooms counts space ys t h there live =
    let a = around ys t no_ticket there in
    let was : held ys ≡ a.before ++ (piece_chunks (at ys t).pieces ++ a.behind) =
    a.was ∙ ap (λ (cs : List Chunk). a.before ++ (cs ++ a.behind)) (held-live (at ys t) live) in
    out-left space (piece_chunks (at ys t).pieces) a.behind
    (out-right space a.before (piece_chunks (at ys t).pieces ++ a.behind) (subst (λ (cs : List Chunk). AreOut space cs) was h.out))

-- ---- the desk

abbrev pub freed : Ticket → Ticket
freed k = record k { stage = Freed }

pub at-cores : (xs : List Ticket) (t : ℕ) (old : Ticket) → t < length xs → old ≡ get_or xs t old → at (map core xs) t ≡ core old
at-cores xs t old there e = at-core xs t there ∙ ap core (get_or_default xs t no_ticket old there ∙ sym e)

kept-freed : (version : ℕ) (us : List RigUnit) (retries : ℕ) (bb bt : List (Option ℕ)) (rooms : List (Option Room)) (counts : List ℕ) (space space' : Space) (xs : List Ticket) (t : ℕ) (old : Ticket)
    → IsKept version us retries bb bt rooms counts space xs → t < length xs → old ≡ get_or xs t old → lives old ≡ true → IsSamePlace space space'
    → ((hs zs : List Chunk) → AreOut space (hs ++ (piece_chunks old.pieces ++ zs)) → AreOut space' (hs ++ zs))
    → IsKept version us retries (set bb (block_key old) None) (set bt (tag_key old) None) (set rooms (block_key old) None) (less counts old.unit) space' (set xs t (freed old))
kept-freed version us retries bb bt rooms counts space space' xs t old h there e live place others =
    let ys = map core xs in
    let is : at ys t ≡ core old = at-cores xs t old there e in
    let low : t < length ys = omega (arith, there, length-map xs core) in
    let lively : lives (at ys t) ≡ true = ap lives is ∙ lives-core old ∙ live in
    let all = held-freed version us retries bb bt rooms counts space space' ys t (core (freed old)) h low lively refl (ap (λ (x : Ticket). x.tag) (sym is))
    (ap (λ (x : Ticket). x.pieces) (sym is)) place
    (λ hs zs o. others hs zs (subst (λ (x : Ticket). AreOut space (hs ++ (piece_chunks x.pieces ++ zs))) is o)) in
    subst (λ (zs : List Ticket). IsHeld version us retries (set bb (block_key old) None) (set bt (tag_key old) None) (set rooms (block_key old) None) (less counts old.unit) space' zs)
    (sym (map-set core xs t (freed old)))
    (subst (λ (x : Ticket). IsHeld version us retries (set bb (block_key x) None) (set bt (tag_key x) None) (set rooms (block_key x) None) (less counts x.unit) space' (set ys t (core (freed old)))) is all)

pub desk_freed : (units submitters retries put take callers : ℕ) (bb bt : List (Option ℕ)) (version : ℕ) (us : List RigUnit) (rooms : List (Option Room)) (counts : List ℕ) (space space' : Space)
    (xs : List Ticket) (t : ℕ) (old : Ticket)
    → IsDesk units submitters retries put take callers xs × IsIndex bb bt xs × IsKept version us retries bb bt rooms counts space xs → t < length xs → old ≡ get_or xs t old → lives old ≡ true
    → IsSamePlace space space' → ((hs zs : List Chunk) → AreOut space (hs ++ (piece_chunks old.pieces ++ zs)) → AreOut space' (hs ++ zs))
    → IsDesk units submitters retries put take callers (set xs t (freed old))
    × IsIndex (set bb (block_key old) None) (set bt (tag_key old) None) (set xs t (freed old))
    × IsKept version us retries (set bb (block_key old) None) (set bt (tag_key old) None) (set rooms (block_key old) None) (less counts old.unit) space' (set xs t (freed old))
desk_freed units submitters retries put take callers bb bt version us rooms counts space space' xs t old h there e live place others =
    let was : IsTicket units submitters retries old = subst (λ (x : Ticket). IsTicket units submitters retries x) (sym e) (h.0.each_ticket t old there) in
    let most : old.tries ≤ retries + 1 = subst (λ (x : Ticket). x.tries ≤ retries + 1) (sym e) (tries_of units submitters retries xs t old h.0.each_ticket there) in
    let all : All (IsTicket units submitters retries) (set xs t (freed old)) =
    All-set (IsTicket units submitters retries) xs t (freed old) (record { line = was.line; unit = was.unit; block = was.block; pieces = was.pieces; tries = most }) h.0.each_ticket in
    let kept = kept-freed version us retries bb bt rooms counts space space' xs t old h.2 there e live place others in (
      record {
        few_units = h.0.few_units;
        few_retries = h.0.few_retries;
        put_slot = h.0.put_slot;
        take_slot = h.0.take_slot;
        all_callers = h.0.all_callers;
        few_tickets = subst (λ (n : ℕ). n < 4294967296) (sym (length-set xs t (freed old))) h.0.few_tickets;
        each_ticket = all;
      },
      index_from units submitters retries (set bb (block_key old) None) (set bt (tag_key old) None) (set xs t (freed old)) all kept.bytes kept.blocks kept.tags,
      kept,
    )

pub old-out : (version : ℕ) (us : List RigUnit) (retries : ℕ) (bb bt : List (Option ℕ)) (rooms : List (Option Room)) (counts : List ℕ) (space : Space) (xs : List Ticket) (t : ℕ) (old : Ticket)
    → IsKept version us retries bb bt rooms counts space xs → t < length xs → old ≡ get_or xs t old → lives old ≡ true → AreOut space (piece_chunks old.pieces)
old-out version us retries bb bt rooms counts space xs t old h there e live =
    let is : at (map core xs) t ≡ core old = at-cores xs t old there e in
    subst (λ (x : Ticket). AreOut space (piece_chunks x.pieces)) is
    (buffer-out version us retries bb bt rooms counts space (map core xs) t h (omega (arith, there, length-map xs core)) (ap lives is ∙ lives-core old ∙ live))

has-core : (o : Option Room) (k : Ticket) → HasRoom o (core k) → HasRoom o k
has-core None k h = h
has-core (Some r) k h = h

pub old-room : (version : ℕ) (us : List RigUnit) (retries : ℕ) (bb bt : List (Option ℕ)) (rooms : List (Option Room)) (counts : List ℕ) (space : Space) (xs : List Ticket) (t : ℕ) (old : Ticket)
    → IsKept version us retries bb bt rooms counts space xs → t < length xs → old ≡ get_or xs t old → lives old ≡ true → HasRoom (get_or rooms (block_key old) None) old
old-room version us retries bb bt rooms counts space xs t old h there e live =
    let is : at (map core xs) t ≡ core old = at-cores xs t old there e in
    has-core (get_or rooms (block_key old) None) old
    (subst (λ (x : Ticket). HasRoom (get_or rooms (block_key x) None) x) is
    (h.reports t (omega (arith, there, length-map xs core)) (ap lives is ∙ lives-core old ∙ live)))

pub old-buffer : (version : ℕ) (us : List RigUnit) (retries : ℕ) (bb bt : List (Option ℕ)) (rooms : List (Option Room)) (counts : List ℕ) (space : Space) (xs : List Ticket) (t : ℕ) (old : Ticket)
    → IsKept version us retries bb bt rooms counts space xs → t < length xs → old ≡ get_or xs t old → IsBuffer old
old-buffer version us retries bb bt rooms counts space xs t old h there e =
    let is : at (map core xs) t ≡ core old = at-cores xs t old there e in
    let b : IsBuffer (core old) = subst (λ (x : Ticket). IsBuffer x) is (h.buffers t no_ticket (omega (arith, there, length-map xs core))) in
    record { fits = b.fits; most = b.most }

-- what is known of a ticket that is to be freed
pub record Facts (space : Space) (counts : List ℕ) (o : Option Room) (k : Ticket) : Type 0 where
  pub live : lives k ≡ true
  pub room : HasRoom o k
  pub inside : All (λ (p : Piece). p.chunk.base + p.len ≤ 0x400000) k.pieces
  pub few : total k.pieces ≤ 65536
  pub out : AreOut space (piece_chunks k.pieces)
  pub counted : 1 ≤ get_or counts k.unit 0
  pub unit : k.unit < length counts

pub facts : (submitters retries put take callers : ℕ) (bb bt : List (Option ℕ)) (version : ℕ) (us : List RigUnit) (rooms : List (Option Room)) (counts : List ℕ) (space : Space)
    (xs : List Ticket) (t : ℕ) (k : Ticket) (o : Option Room)
    → IsDesk (length us) submitters retries put take callers xs × IsIndex bb bt xs × IsKept version us retries bb bt rooms counts space xs → t < length xs → k ≡ get_or xs t k → k.stage ≡ Unlinked
    → o ≡ get_or rooms (block_key k) o → Facts space counts o k
facts submitters retries put take callers bb bt version us rooms counts space xs t k o h there e unlinked at-o =
    let live : lives k ≡ true = ap (λ (s : Stage). not (is_freed s)) unlinked in
    let is : IsTicket (length us) submitters retries k = subst (λ (x : Ticket). IsTicket (length us) submitters retries x) (sym e) (h.0.each_ticket t k there) in
    let small : block_key k < length rooms = omega (arith, is.block.from, is.block.below, h.2.places) in
    let buffer = old-buffer version us retries bb bt rooms counts space xs t k h.2 there e in
    let out = old-out version us retries bb bt rooms counts space xs t k h.2 there e live in
    let at-core-k : at (map core xs) t ≡ core k = at-cores xs t k there e in
    let unit : k.unit < length us = is.unit in
    record {
      live = live;
      room = subst (λ (x : Option Room). HasRoom x k) (get_or_default rooms (block_key k) None o small ∙ sym at-o)
          (old-room version us retries bb bt rooms counts space xs t k h.2 there e live);
      inside = pieces_inside space k.pieces h.2.base h.2.chunks out.out buffer.fits;
      few = buffer.most;
      out = out;
      counted = subst (λ (x : Ticket). 1 ≤ get_or counts x.unit 0) at-core-k
          (one_lives us counts (map core xs) t h.2.counted (omega (arith, there, length-map xs core)) (ap lives at-core-k ∙ lives-core k ∙ live)
          (subst (λ (x : Ticket). x.unit < length us) (sym at-core-k) unit));
      unit = omega (arith, unit, h.2.counted.units);
    }

-- what is known of a live ticket whose block is to be written
pub record Writable (us : List RigUnit) (k : Ticket) : Type 0 where
  pub block : IsCommandBlock k.block
  pub pieces : length k.pieces ≤ 16
  pub unit : k.unit < length us
  pub target : (d : RigUnit) → (get_or us k.unit d).target ≤ 6
  pub lun : (d : RigUnit) → (get_or us k.unit d).lun < 8
  pub inside : All (λ (p : Piece). p.chunk.base + p.len ≤ 0x400000) k.pieces

pub writable : (submitters retries put take callers : ℕ) (bb bt : List (Option ℕ)) (version : ℕ) (us : List RigUnit) (rooms : List (Option Room)) (counts : List ℕ) (space : Space)
    (xs : List Ticket) (t : ℕ) (k : Ticket)
    → IsDesk (length us) submitters retries put take callers xs × IsIndex bb bt xs × IsKept version us retries bb bt rooms counts space xs → t < length xs → k ≡ get_or xs t k → lives k ≡ true
    → Writable us k
writable submitters retries put take callers bb bt version us rooms counts space xs t k h there e live =
    let is : IsTicket (length us) submitters retries k = subst (λ (x : Ticket). IsTicket (length us) submitters retries x) (sym e) (h.0.each_ticket t k there) in
    let out = old-out version us retries bb bt rooms counts space xs t k h.2 there e live in
    let low : k.unit < length us = is.unit in
    record {
      block = is.block;
      pieces = is.pieces;
      unit = low;
      target = λ d. (h.2.rig.in_range k.unit d low).in_range.target;
      lun = λ d. let most : (get_or us k.unit d).lun ≤ 7 = (h.2.rig.in_range k.unit d low).in_range.lun in omega (arith, most);
      inside = pieces_inside space k.pieces h.2.base h.2.chunks out.out (old-buffer version us retries bb bt rooms counts space xs t k h.2 there e).fits;
    }
