-- Whose a word of host memory is (own). A chunk is its ticket's whole, also where its piece is shorter.
use Rattle.std.specs.Prelude.{ℕ, ◌+◌, ◌-◌, ◌/◌, ◌&&◌, nat_lt, nat_le, if◌then◌else◌, Bool, length, position, Option, Some, None}
use Rattle.std.specs.List.{list_any}
use Rattle.host_map.specs.declared.TheConstants.{FRONT, START_RING, DONE_RING, TAG_TABLES, CHAINS, BLOCK_BYTES, BUFFERS}
use Rattle.host_map.specs.Regions.{Chains, behind}
use Rattle.desk_law.specs.declared.ticket.Piece.{Piece}
use Rattle.desk_law.specs.declared.ticket.Ticket.{Ticket}
use Rattle.desk_law.specs.Desk.{DeskState, lives}
use Rattle.world_law.specs.declared.owner.Owner.{Owner}
use Rattle.world_law.specs.declared.owner.Owner.TheVariants.{Program, Control, StartRing, DoneRing, Table, Block, Chunk, Free}

-- a table belongs to its unit, where the rig has it; each unit has four tables of 64 words
abbrev pub table_owner : (units u : ℕ) → Owner
table_owner units u = if nat_lt u units then Table u else Free

-- a block and a chunk belong to the live ticket that has it
abbrev pub is_within : (from len a : ℕ) → Bool
is_within from len a = nat_le from a && nat_lt a (from + len)

abbrev pub has_block_at : ℕ → Ticket → Bool
has_block_at a k = lives k && is_within k.block BLOCK_BYTES a

abbrev pub has_chunk_at : ℕ → Ticket → Bool
has_chunk_at a k = lives k && list_any (λ (p : Piece). is_within p.chunk.base p.chunk.size a) k.pieces

abbrev pub owner_by : (ℕ → Owner) → Option ℕ → Owner
owner_by owns None = Free
owner_by owns (Some t) = owns t

abbrev pub ticket_owner : DeskState → ℕ → Owner
ticket_owner d a =
    if nat_lt a BUFFERS then owner_by Block (position (has_block_at a) d.tickets) else owner_by Chunk (position (has_chunk_at a) d.tickets)

abbrev pub owner_of : DeskState → ℕ → Owner
owner_of d a =
    if nat_lt a FRONT then Program else
    (if nat_lt a START_RING then Control else
    (if nat_lt a DONE_RING then StartRing else
    (if nat_lt a TAG_TABLES then DoneRing else
    (if nat_lt a CHAINS then table_owner (length d.units) ((a - TAG_TABLES) / 0x400) else
    (if nat_lt a (behind Chains) then Program else ticket_owner d a)))))
