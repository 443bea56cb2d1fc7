-- When calls of the desk may be made, and what TakeDone answers (own).
use Rattle.std.specs.Prelude.{◌≡◌, ◌==◌, if◌then◌else◌, ◌≤◌, ◌++◌, ℕ, false, All, List, length, map, sum, zip, None, unwrap_or}
use Rattle.desk_law.specs.declared.stage.Stage.{Stage}
use Rattle.desk_law.specs.declared.stage.Stage.TheVariants.{Built, Linked, Queued, Again, Sensing, Ended}
use Rattle.desk_law.specs.declared.stage.Taken.{Taken}
use Rattle.desk_law.specs.declared.stage.Taken.TheVariants as answer
use Rattle.desk_law.specs.declared.stage.Stage.TheVariants as stage
use Rattle.desk_law.specs.Desk.{DeskState}
use Rattle.desk_law.specs.Rings.{done_ticket}
use Rattle.rig_types.specs.declared.step.Line.{Line}
use Rattle.dma_buddy.specs.declared.buddies.Chunk.{Chunk}
use Rattle.dma_buddy.specs.Regions.{IsRegion, AreOut, TakesAll}
use Rattle.desk_law.specs.declared.ticket.Piece.{Piece}
use Rattle.driver_desk.specs.Kept.{total}
use Rattle.driver_desk.specs.Held.{core, held, piece_chunks}
use Rattle.desk_law.specs.declared.ticket.Ticket.{Ticket}
use Rattle.desk_law.specs.Building.{piece}
use Rattle.unit_law.specs.Request.{RequestData}
use Rattle.desk_law.specs.declared.refused.Refused.{Refused as Reason}
use Rattle.desk_law.specs.Refusals.{kind_of, is_full, Refuses}
use Rattle.driver_desk.specs.declared.fault.BuildFault.{BuildFault}
use Rattle.driver_desk.specs.declared.fault.BuildFault.TheVariants.{Refused, OutOfMemory}

-- a ticket is put into the start ring after Link, and where it was refused
abbrev pub MayQueue : Stage → Type 0
MayQueue Linked = Unit {0}
MayQueue Again = Unit {0}
MayQueue _ = ⊥

-- a ticket ends while its block is with the chip
abbrev pub MayEnd : Stage → Type 0
MayEnd Queued = Unit {0}
MayEnd Sensing = Unit {0}
MayEnd _ = ⊥

-- a ticket that ended is unlinked
abbrev pub IsEnded : Stage → Type 0
IsEnded (Ended o) = Unit {0}
IsEnded _ = ⊥

-- the ticket that TakeDone takes
abbrev pub next_done : List ℕ → DeskState → ℕ
next_done m d = unwrap_or (done_ticket m d) 0

-- what TakeDone answers, by the stage that the ticket has then
abbrev pub answer_of : Stage → ℕ → Taken
answer_of Again t = answer.Again t
answer_of stage.Check t = answer.Check t
answer_of _ t = answer.Ended t

-- why Build fails: for the one reason by which the request is refused, or for want of memory, and then nothing refuses it
abbrev pub FaultOf : DeskState → RequestData → BuildFault → Type 0
FaultOf d r (Refused a) = Refuses d r a
FaultOf d r OutOfMemory = (a : Reason) → Refuses d r a → ⊥

-- the segments of a request, each at the start of its chunk
abbrev pub pieces_of : List Chunk → List ℕ → List Piece
pieces_of chunks lens = map piece (zip chunks lens)

-- chunks that were taken for segments of these lengths, and are no ticket's
pub record AreFor (d : DeskState) (chunks : List Chunk) (lens : List ℕ) : Type 0 where
  pub same : piece_chunks (pieces_of chunks lens) ≡ chunks
  pub count : length (pieces_of chunks lens) ≡ length lens
  pub total : total (pieces_of chunks lens) ≡ sum lens
  pub fits : All (λ (p : Piece). p.len ≤ p.chunk.size) (pieces_of chunks lens)
  pub out : AreOut d.space (held (map core d.tickets) ++ chunks)

-- chunks are taken for a request that isn't refused
pub record Accepts (old : DeskState) (r : RequestData) (chunks : List Chunk) (new : DeskState) : Type 0 where
  pub sound : kind_of old.units r ≡ None
  pub not_full : is_full old r.unit ≡ false
  pub region : IsRegion old.space
  pub takes : TakesAll old.space r.segments chunks new.space
  pub are_for : AreFor new chunks r.segments
  pub desk : new ≡ record old { space = new.space }

-- the distance of two tags: in version 1 they are multiples of 4
abbrev pub step_of : ℕ → ℕ
step_of version = if version == 2 then 1 else 4

-- the ticket of an accepted request, with its tag, block and chunks
abbrev pub built_ticket : Line → RequestData → (tag block : ℕ) → List Chunk → Ticket
built_ticket l r tag block chunks = record {
  line = l;
  unit = r.unit;
  tag = tag;
  block = block;
  direction = r.direction;
  pieces = map piece (zip chunks r.segments);
  stage = Built;
  outcome = None;
  tries = 0;
  checked = false;
  sensed = false;
}
