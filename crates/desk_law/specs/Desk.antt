-- What the desk keeps, and what its readers tell (own).
use Rattle.std.specs.Prelude.{ℕ, ◌+◌, ◌-◌, ◌==◌, ◌&&◌, not, Bool, true, false, List, [], length, map, filter, position, replicate, slice_index_or, slice_set, Option, None}
use Rattle.std.specs.List.{range_with_len}
use Rattle.scsi_words.specs.declared.phases.kinds.Direction.TheVariants.{None as NoData}
use Rattle.rig_types.specs.declared.rig.Unit.{Unit as RigUnit}
use Rattle.rig_types.specs.declared.rig.Pattern.TheVariants.{Zero}
use Rattle.host_map.specs.declared.TheConstants.{START_RING, DONE_RING, BUFFERS, CHUNK_BYTES, CHUNK_COUNT}
use Rattle.host_map.specs.Places.{chunk_at}
use Rattle.dma_buddy.specs.declared.buddies.Chunk.{Chunk}
use Rattle.dma_buddy.specs.Regions.{Space}
use Rattle.desk_law.specs.declared.stage.Stage.{Stage}
use Rattle.desk_law.specs.declared.stage.Stage.TheVariants.{Queued, Sensing, Freed}
use Rattle.desk_law.specs.declared.ticket.Ticket.{Ticket}

-- Of the rig its version, units and retries, and whether the driver asks for the sense by itself; of the work how many submitters it has. The
-- tickets by number; the start slot that the driver fills next and the done slot that it takes next, by their addresses; the free chunks; and
-- how many signals are due, by caller.
pub record DeskState : Type 0 where
  pub version : ℕ
  pub units : List RigUnit
  pub retries : ℕ
  pub autosense : Bool
  pub submitters : ℕ
  pub tickets : List Ticket
  pub put : ℕ
  pub take : ℕ
  pub space : Space
  pub due : List ℕ

-- the callers behind the submitters
abbrev pub aborter : DeskState → ℕ
aborter d = d.submitters

abbrev pub reaper : DeskState → ℕ
reaper d = d.submitters + 1

abbrev pub chip : DeskState → ℕ
chip d = d.submitters + 2

-- ---- tickets

-- a freed ticket stands where none was built
abbrev pub no_ticket : Ticket
no_ticket = record {
  line = record { submitter = 0; number = 0 };
  unit = 0;
  tag = 0;
  block = 0;
  direction = NoData;
  pieces = [];
  stage = Freed;
  outcome = None;
  tries = 0;
  checked = false;
  sensed = false;
}

abbrev pub ticket : DeskState → ℕ → Ticket
ticket d t = slice_index_or d.tickets t no_ticket

abbrev pub with_ticket : DeskState → ℕ → Ticket → DeskState
with_ticket d t k = record d { tickets = slice_set d.tickets t k }

-- a unit of the rig; one without blocks stands where there is none
abbrev pub no_unit : RigUnit
no_unit = record { target = 0; lun = 0; blocks = 0; pattern = Zero; depth = 0; disconnects = 0; refusals = 0; absent = false; rogue = false }

abbrev pub unit : DeskState → ℕ → RigUnit
unit d u = slice_index_or d.units u no_unit

abbrev pub is_rogue : DeskState → Ticket → Bool
is_rogue d k = (unit d k.unit).rogue

-- a ticket lives from its Build to its Free
abbrev pub is_freed : Stage → Bool
is_freed Freed = true
is_freed _ = false

abbrev pub lives : Ticket → Bool
lives k = not (is_freed k.stage)

abbrev pub is_queued : Stage → Bool
is_queued Queued = true
is_queued _ = false

abbrev pub is_sensing : Stage → Bool
is_sensing Sensing = true
is_sensing _ = false

-- how many tickets of a unit live
abbrev pub is_of_unit : ℕ → Ticket → Bool
is_of_unit u k = lives k && k.unit == u

abbrev pub live_count : DeskState → ℕ → ℕ
live_count d u = length (filter (is_of_unit u) d.tickets)

-- the live ticket with a tag of a unit, and the one with a block
abbrev pub has_tag : (u tag : ℕ) → Ticket → Bool
has_tag u tag k = is_of_unit u k && k.tag == tag

abbrev pub has_block : ℕ → Ticket → Bool
has_block block k = lives k && k.block == block

abbrev pub ticket_of : DeskState → (u tag : ℕ) → Option ℕ
ticket_of d u tag = position (has_tag u tag) d.tickets

abbrev pub ticket_at : DeskState → ℕ → Option ℕ
ticket_at d block = position (has_block block) d.tickets

-- ---- signals

abbrev pub due : DeskState → ℕ → ℕ
due d caller = slice_index_or d.due caller 0

-- one more, and one less
abbrev pub owed : DeskState → ℕ → DeskState
owed d caller = record d { due = slice_set d.due caller (due d caller + 1) }

abbrev pub paid : DeskState → ℕ → DeskState
paid d caller = record d { due = slice_set d.due caller (due d caller - 1) }

-- ---- the opening

-- a desk without tickets, with all chunks of the buffer region free
abbrev pub whole_chunk : ℕ → Chunk
whole_chunk n = record { base = chunk_at n; size = CHUNK_BYTES }

abbrev pub desk_opened : (version : ℕ) → List RigUnit → (retries : ℕ) → (autosense : Bool) → (submitters : ℕ) → DeskState
desk_opened version units retries autosense submitters = record {
  version = version;
  units = units;
  retries = retries;
  autosense = autosense;
  submitters = submitters;
  tickets = [];
  put = START_RING;
  take = DONE_RING;
  space = record { base = BUFFERS; units = CHUNK_COUNT; free = map whole_chunk (range_with_len 0 CHUNK_COUNT) };
  due = replicate (submitters + 3) 0;
}
