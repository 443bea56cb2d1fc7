-- A desk with one ticket more is one.
use Rattle.std.proofs.Common.{arith, ◌≡◌, ℕ, ◌+◌, ◌<◌, ◌≤◌, false, List, [], ◌∷◌, ◌++◌, map, length, Option, Some, None, sym, ap, subst, ◌∙◌, get_or, set}
use Rattle.std.specs.Prelude.{All, sum, count_by, position}
use Rattle.rig_types.specs.declared.step.Line.{Line}
use Rattle.unit_law.specs.Request.{RequestData}
use Rattle.host_map.specs.Places.{IsCommandBlock}
use Rattle.dma_buddy.specs.declared.buddies.Chunk.{Chunk}
use Rattle.dma_buddy.specs.Regions.{AreOut}
use Rattle.desk_law.specs.declared.ticket.Piece.{Piece}
use Rattle.desk_law.specs.declared.ticket.Ticket.{Ticket}
use Rattle.desk_law.specs.Desk.{DeskState, no_unit, lives, is_of_unit, has_tag, ticket_of, ticket_at}
use Rattle.desk_law.specs.Refusals.{kind_of, is_full}
use Rattle.desk_law.specs.Building.{new_ticket}
use Rattle.driver_desk.specs.declared.reporting.Room.{Room}
use Rattle.driver_desk.specs.Kept.{total, IsTicket, IsIndex, IsDesk}
use Rattle.driver_desk.specs.Held.{core, block_key, tag_key, piece_chunks, held, more, IsKept}
use Rattle.driver_desk.specs.Conditions.{pieces_of, AreFor}
use Rattle.driver_desk.proofs.Index.{block_found, tag_found}
use Rattle.driver_desk.proofs.WholeDescriptors.{sound}
use Rattle.driver_desk.proofs.LiveCounts.{not_full}
use Rattle.driver_desk.proofs.Additions.{desk_built}

-- what is true of a desk and of what it keeps
abbrev pub IsWhole : DeskState → (bb bt : List (Option ℕ)) → List (Option Room) → List ℕ → Type 0
IsWhole d bb bt rooms counts =
    IsDesk (length d.units) d.submitters d.retries d.put d.take (length d.due) d.tickets × IsIndex bb bt d.tickets
    × IsKept d.version d.units d.retries bb bt rooms counts d.space d.tickets

abbrev pub IsWholeWith : DeskState → (bb bt : List (Option ℕ)) → List (Option Room) → List ℕ → Ticket → Room → Type 0
IsWholeWith d bb bt rooms counts k room =
    IsDesk (length d.units) d.submitters d.retries d.put d.take (length d.due) (d.tickets ++ k ∷ [])
    × IsIndex (set bb (block_key k) (Some (length d.tickets))) (set bt (tag_key k) (Some (length d.tickets))) (d.tickets ++ k ∷ [])
    × IsKept d.version d.units d.retries (set bb (block_key k) (Some (length d.tickets))) (set bt (tag_key k) (Some (length d.tickets)))
    (set rooms (block_key k) (Some room)) (more counts k.unit) d.space (d.tickets ++ k ∷ [])

pub entered : (d : DeskState) (bb bt : List (Option ℕ)) (rooms : List (Option Room)) (counts : List ℕ) (l : Line) (r : RequestData) (cs : List Chunk) (k : Ticket) (room : Room)
    → IsWhole d bb bt rooms counts → length d.tickets + 1 < 4294967296 → l.submitter < d.submitters → kind_of d.units r ≡ None → is_full d r.unit ≡ false
    → AreFor d cs r.segments → length r.bytes ≡ sum r.segments → k ≡ new_ticket d l r cs → IsCommandBlock k.block
    → (ticket_at d k.block ≡ None) × (ticket_of d r.unit k.tag ≡ None) × (k.tag < 256) → (length room.bytes.items ≡ length r.bytes) × (length room.sense.items ≡ 18)
    → IsWholeWith d bb bt rooms counts k room
entered d bb bt rooms counts l r cs k room h few line kind full a whole e block free space =
    let s = sound d.units r kind in
    let few_pieces : length (pieces_of cs r.segments) ≤ 16 = omega (arith, a.count, s.segments) in
    let untried : 0 ≤ 0 = omega arith in
    let made : IsTicket (length d.units) d.submitters d.retries (new_ticket d l r cs) = record {
      line = line;
      unit = s.unit;
      block = subst (λ (x : Ticket). IsCommandBlock x.block) e block;
      pieces = few_pieces;
      tries = untried;
    } in
    let is : IsTicket (length d.units) d.submitters d.retries k = subst (λ (x : Ticket). IsTicket (length d.units) d.submitters d.retries x) (sym e) made in
    let unit : k.unit ≡ r.unit = ap (λ (x : Ticket). x.unit) e in
    let pieces : k.pieces ≡ pieces_of cs r.segments = ap (λ (x : Ticket). x.pieces) e in
    let length' : total k.pieces ≡ sum r.segments = ap total pieces ∙ a.total in
    let some : count_by (is_of_unit k.unit) (map core d.tickets) < (get_or d.units k.unit no_unit).depth =
    subst (λ (u : ℕ). count_by (is_of_unit u) (map core d.tickets) < (get_or d.units u no_unit).depth) (sym unit) (not_full d.units d.tickets r.unit full) in
    let low : k.unit < 16 = omega (arith, is.unit, h.0.few_units) in
    desk_built (length d.units) d.submitters d.retries d.put d.take (length d.due) bb bt d.version d.units rooms counts d.space d.tickets k room h few is (ap lives e) free.2
    (block_found bb bt d.tickets k.block h.1 block ∙ free.0)
    (tag_found bb bt d.tickets k.unit k.tag h.1 low free.2 ∙ subst (λ (u : ℕ). position (has_tag u k.tag) d.tickets ≡ None) (sym unit) free.1)
    (record {
      fits = subst (λ (ps : List Piece). All (λ (p : Piece). p.len ≤ p.chunk.size) ps) (sym pieces) a.fits;
      most = omega (arith, length', s.few);
    })
    (space.0 ∙ whole ∙ sym length', space.1) some
    (subst (λ (xs : List Chunk). AreOut d.space (held (map core d.tickets) ++ xs)) (sym (ap piece_chunks pieces ∙ a.same)) a.out)
