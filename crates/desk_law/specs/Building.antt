-- Build: the ticket of an accepted request, and what is made of the desk and of memory (own).
use Rattle.std.specs.Prelude.{◌≡◌, ℕ, ◌*◌, ◌==◌, not, if◌then◌else◌, Bool, false, List, [], ◌∷◌, ◌++◌, length, map, zip, find, None, unwrap_or}
use Rattle.std.specs.List.{range_with_len, list_any}
use Rattle.rig_types.specs.declared.step.Line.{Line}
use Rattle.unit_law.specs.Request.{RequestData}
use Rattle.host_map.specs.declared.TheConstants.{BLOCK_COUNT}
use Rattle.host_map.specs.Places.{block_at}
use Rattle.dma_buddy.specs.declared.buddies.Chunk.{Chunk}
use Rattle.dma_buddy.specs.Regions.{TakesAll}
use Rattle.desk_law.specs.declared.stage.Stage.TheVariants.{Built}
use Rattle.desk_law.specs.declared.ticket.Piece.{Piece}
use Rattle.desk_law.specs.declared.ticket.Ticket.{Ticket}
use Rattle.desk_law.specs.Desk.{DeskState, unit, has_tag, has_block}
use Rattle.desk_law.specs.Blocks.{with_block, with_buffer}
use Rattle.desk_law.specs.Refusals.{kind_of, is_full}

-- the first of these numbers that isn't taken; 0 where all are
abbrev pub first_free : (taken : ℕ → Bool) → List ℕ → ℕ
first_free taken ns = unwrap_or (find (λ (n : ℕ). not (taken n)) ns) 0

-- the least block that no live ticket has
abbrev pub free_block : DeskState → ℕ
free_block d = first_free (λ (block : ℕ). list_any (has_block block) d.tickets) (map block_at (range_with_len 0 BLOCK_COUNT))

-- the tags by rising number: in version 1 multiples of 4, in version 2 any byte
abbrev pub tags : (version : ℕ) → List ℕ
tags version = if version == 2 then range_with_len 0 256 else map (λ (n : ℕ). 4 * n) (range_with_len 0 64)

-- the least tag of a unit that no live ticket of it has
abbrev pub free_tag : DeskState → ℕ → ℕ
free_tag d u = first_free (λ (tag : ℕ). list_any (has_tag u tag) d.tickets) (tags d.version)

abbrev pub piece : Chunk × ℕ → Piece
piece x = record { chunk = x.0; len = x.1 }

abbrev pub new_ticket : DeskState → Line → RequestData → List Chunk → Ticket
new_ticket d l r chunks = record {
  line = l;
  unit = r.unit;
  tag = free_tag d r.unit;
  block = free_block d;
  direction = r.direction;
  pieces = map piece (zip chunks r.segments);
  stage = Built;
  outcome = None;
  tries = 0;
  checked = false;
  sensed = false;
}

-- the desk with one ticket more
abbrev pub desk_built : DeskState → Ticket → DeskState
desk_built d k = record d { tickets = d.tickets ++ k ∷ [] }

-- memory with its block and the bytes that were submitted
abbrev pub memory_built : DeskState → List ℕ → Ticket → RequestData → List ℕ
memory_built d m k r = with_buffer (with_block m (unit d k.unit) k r.cdb) k.pieces r.bytes

-- An accepted request: its chunks are taken in order, and its ticket's number is that of the tickets before it.
pub record Builds (old : DeskState) (memory : List ℕ) (l : Line) (r : RequestData) (number : ℕ) (new : DeskState) (memory' : List ℕ) : Type 0 where
  pub sound : kind_of old.units r ≡ None
  pub not_full : is_full old r.unit ≡ false
  pub chunks : List Chunk
  pub takes : TakesAll old.space r.segments chunks new.space
  pub numbered : number ≡ length old.tickets
  pub desk : new ≡ record (desk_built old (new_ticket old l r chunks)) { space = new.space }
  pub wrote : memory' ≡ memory_built old memory (new_ticket old l r chunks) r
