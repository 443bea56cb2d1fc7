-- What is true of the desk's own fields at all times (own). Lemmas speak of it; no public contract rests on it.
use Rattle.std.specs.Prelude.{◌≡◌, ℕ, ◌+◌, ◌*◌, ◌<◌, ◌≤◌, List, length, All, Option, None, position, slice_index_or, sum_by}
use Rattle.host_map.specs.declared.TheConstants.{START_RING, DONE_RING}
use Rattle.host_map.specs.Places.{IsCommandBlock, block_at}
use Rattle.job_rings.specs.Rings.{IsSlot}
use Rattle.desk_law.specs.declared.stage.Stage.{Stage}
use Rattle.desk_law.specs.declared.stage.Stage.TheVariants.{Built, Linked, Again}
use Rattle.desk_law.specs.declared.ticket.Piece.{Piece}
use Rattle.desk_law.specs.declared.ticket.Ticket.{Ticket}
use Rattle.desk_law.specs.Desk.{has_tag, has_block}

-- the length of a buffer in these pieces
abbrev pub total : List Piece → ℕ
total ps = sum_by (λ (p : Piece). p.len) ps

-- how often a ticket in a stage was queued at most
abbrev pub most_tries : (retries : ℕ) → Stage → ℕ
most_tries retries Built = 0
most_tries retries Linked = 0
most_tries retries Again = retries
most_tries retries _ = retries + 1

pub record IsTicket (units submitters retries : ℕ) (k : Ticket) : Type 0 where
  pub line : k.line.submitter < submitters
  pub unit : k.unit < units
  pub block : IsCommandBlock k.block
  pub pieces : length k.pieces ≤ 16
  pub tries : k.tries ≤ most_tries retries k.stage

-- For each block and for each tag of each unit, the live ticket that has it, as the search through the tickets finds it.
pub record IsIndex (by_block by_tag : List (Option ℕ)) (tickets : List Ticket) : Type 0 where
  pub blocks : length by_block ≡ 256
  pub tags : length by_tag ≡ 4096
  pub block : (b : ℕ) → b < 256 → slice_index_or by_block b None ≡ position (has_block (block_at b)) tickets
  pub tag : (u g : ℕ) → u < 16 → g < 256 → slice_index_or by_tag (256 * u + g) None ≡ position (has_tag u g) tickets

pub record IsDesk (units submitters retries put take callers : ℕ) (tickets : List Ticket) : Type 0 where
  pub few_units : units ≤ 16
  pub few_retries : retries ≤ 8
  pub put_slot : IsSlot START_RING put
  pub take_slot : IsSlot DONE_RING take
  pub all_callers : callers ≡ submitters + 3
  pub few_tickets : length tickets < 4294967296
  pub each_ticket : All (IsTicket units submitters retries) tickets
