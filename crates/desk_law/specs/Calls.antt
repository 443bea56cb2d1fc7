-- What the calls of the desk make of the desk and of memory, for a ticket in the stage that the call asks for (own). Build stands in
-- Building, TakeDone in Taking.
use Rattle.std.specs.Prelude.{◌≡◌, ℕ, ◌+◌, true, List, [], ◌∷◌, map, Some}
use Rattle.bench_words.specs.Memory.{put_word}
use Rattle.rig_types.specs.declared.report.Outcome.{Outcome}
use Rattle.chip_regs.specs.declared.registers.Regs.{Regs}
use Rattle.host_map.specs.declared.TheConstants.{FRONT, START_RING}
use Rattle.cmd_block.specs.declared.Field.TheVariants.{Lastp, Savep, State, Status}
use Rattle.cmd_block.specs.declared.TheConstants.{LIVE}
use Rattle.job_rings.specs.Rings.{next_slot, started}
use Rattle.tag_tables.specs.Tables.{linked, unlinked}
use Rattle.sense_job.specs.Turning.{with_fields, turned}
use Rattle.dma_buddy.specs.declared.buddies.Chunk.{Chunk}
use Rattle.dma_buddy.specs.Regions.{Space, Gives}
use Rattle.desk_law.specs.declared.stage.Stage.{Stage}
use Rattle.desk_law.specs.declared.stage.Stage.TheVariants.{Linked, Queued, Again, Sensing, Ended, Unlinked, Freed}
use Rattle.desk_law.specs.declared.ticket.Piece.{Piece}
use Rattle.desk_law.specs.declared.ticket.Ticket.{Ticket}
use Rattle.desk_law.specs.Desk.{DeskState, reaper, ticket, with_ticket, owed}
use Rattle.desk_law.specs.Blocks.{begins_at, no_status_yet}

abbrev pub staged : DeskState → ℕ → Stage → DeskState
staged d t s = with_ticket d t (record (ticket d t) { stage = s })

-- ---- Link and Unlink

abbrev pub links : DeskState → ℕ → DeskState
links d t = staged d t Linked

abbrev pub link_memory : DeskState → ℕ → List ℕ → List ℕ
link_memory d t m = linked m (ticket d t).unit (ticket d t).tag (ticket d t).block

abbrev pub unlinks : DeskState → ℕ → DeskState
unlinks d t = staged d t Unlinked

abbrev pub unlink_memory : DeskState → ℕ → List ℕ → List ℕ
unlink_memory d t m = unlinked m (ticket d t).unit (ticket d t).tag

-- ---- Queue

-- a ticket that is queued again begins anew, and its signal is then due of the reaper
abbrev pub begun_anew : Stage → Ticket → List ℕ → List ℕ
begun_anew Again k m = with_fields m k.block ((State, LIVE) ∷ (Status, no_status_yet) ∷ (Lastp, begins_at k) ∷ (Savep, begins_at k) ∷ [])
begun_anew _ k m = m

abbrev pub queue_caller : Stage → DeskState → Ticket → ℕ
queue_caller Again d k = reaper d
queue_caller _ d k = k.line.submitter

abbrev pub in_ring : DeskState → ℕ → DeskState
in_ring d t = record (with_ticket d t (record (ticket d t) { stage = Queued; tries = (ticket d t).tries + 1 })) { put = next_slot START_RING d.put }

abbrev pub queues : DeskState → ℕ → DeskState
queues d t = owed (in_ring d t) (queue_caller (ticket d t).stage d (ticket d t))

abbrev pub queue_memory : DeskState → ℕ → List ℕ → List ℕ
queue_memory d t m = started (begun_anew (ticket d t).stage (ticket d t) m) d.put (ticket d t).block

-- ---- Signal

abbrev pub signalled : Regs → Regs
signalled r = record r { sigp = true }

-- ---- Sense

abbrev pub senses : DeskState → ℕ → DeskState
senses d t = owed (staged d t Sensing) (reaper d)

abbrev pub sense_memory : DeskState → ℕ → List ℕ → List ℕ
sense_memory d t m = put_word (turned m (ticket d t).block) FRONT (ticket d t).block

-- ---- the end of a ticket, and Free

abbrev pub ended : Ticket → Outcome → Ticket
ended k o = record k { stage = Ended o; outcome = Some o }

abbrev pub ends : DeskState → ℕ → Outcome → DeskState
ends d t o = with_ticket d t (ended (ticket d t) o)

-- chunks are given back in order
abbrev pub GivesAll : Space → List Chunk → Space → Type 0
GivesAll s [] t = t ≡ s
GivesAll s (c ∷ cs) t = (m : Space) × Gives s c m × GivesAll m cs t

abbrev pub chunks_of : Ticket → List Chunk
chunks_of k = map (λ (p : Piece). p.chunk) k.pieces

pub record Frees (old : DeskState) (t : ℕ) (new : DeskState) : Type 0 where
  pub gives : GivesAll old.space (chunks_of (ticket old t)) new.space
  pub desk : new ≡ record (staged old t Freed) { space = new.space }
