-- What is true at all times of what the desk keeps beside its tickets (own). Lemmas speak of it; no public contract rests on it.
use Rattle.std.specs.Prelude.{◌≡◌, ℕ, ◌+◌, ◌-◌, ◌*◌, ◌/◌, ◌<◌, ◌≤◌, true, List, [], length, map, All, Option, Some, None, cond, flat_map, count_by, slice_index_or, slice_set}
use Rattle.rig_types.specs.declared.rig.Unit.{Unit as RigUnit}
use Rattle.rig_types.specs.Ranges.{IsRig}
use Rattle.host_map.specs.declared.TheConstants.{BLOCKS, BLOCK_BYTES, BUFFERS, CHUNK_COUNT}
use Rattle.dma_buddy.specs.declared.buddies.Chunk.{Chunk}
use Rattle.dma_buddy.specs.Regions.{Space, AreOut}
use Rattle.desk_law.specs.declared.stage.Stage.TheVariants.{Built, Freed}
use Rattle.desk_law.specs.declared.ticket.Piece.{Piece}
use Rattle.desk_law.specs.declared.ticket.Ticket.{Ticket}
use Rattle.desk_law.specs.Desk.{no_ticket, no_unit, lives, is_of_unit}
use Rattle.driver_desk.specs.declared.reporting.Room.{Room}
use Rattle.driver_desk.specs.Kept.{total}

-- ---- what of a ticket stays from its Build to its Free

abbrev pub core : Ticket → Ticket
core k = record no_ticket { unit = k.unit; tag = k.tag; block = k.block; pieces = k.pieces; stage = cond (lives k) Built Freed }

-- ---- places by key

abbrev pub at : List Ticket → ℕ → Ticket
at xs i = slice_index_or xs i no_ticket

-- Each key has the one live ticket with that key, if there is one. Live tickets have different keys.
pub record Keyed (size : ℕ) (key : Ticket → ℕ) (o : List (Option ℕ)) (xs : List Ticket) : Type 0 where
  pub count : length o ≡ size
  pub within : (i : ℕ) → i < length xs → lives (at xs i) ≡ true → key (at xs i) < size
  pub found : (i : ℕ) → i < length xs → lives (at xs i) ≡ true → slice_index_or o (key (at xs i)) None ≡ Some i
  pub only : (a i : ℕ) → slice_index_or o a None ≡ Some i → (i < length xs) × (lives (at xs i) ≡ true) × (key (at xs i) ≡ a)

abbrev pub block_key : Ticket → ℕ
block_key k = (k.block - BLOCKS) / BLOCK_BYTES

abbrev pub tag_key : Ticket → ℕ
tag_key k = 256 * k.unit + k.tag

-- ---- chunks

-- those of these pieces
abbrev pub piece_chunks : List Piece → List Chunk
piece_chunks ps = map (λ (p : Piece). p.chunk) ps

-- those of all live tickets
abbrev pub held_by : Ticket → List Chunk
held_by k = cond (lives k) (piece_chunks k.pieces) []

abbrev pub held : List Ticket → List Chunk
held xs = flat_map held_by xs

-- a buffer of at most 65,536 bytes, each segment within its chunk
pub record IsBuffer (k : Ticket) : Type 0 where
  pub fits : All (λ (p : Piece). p.len ≤ p.chunk.size) k.pieces
  pub most : total k.pieces ≤ 65536

-- the memory of its report
abbrev pub HasRoom : Option Room → Ticket → Type 0
HasRoom None k = ⊥
HasRoom (Some r) k = (length r.bytes.items ≡ total k.pieces) × (length r.sense.items ≡ 18)

-- ---- how many tickets of each unit live

-- one less, and one more, of a unit
abbrev pub less : List ℕ → ℕ → List ℕ
less counts u = slice_set counts u (slice_index_or counts u 0 - 1)

abbrev pub more : List ℕ → ℕ → List ℕ
more counts u = slice_set counts u (slice_index_or counts u 0 + 1)

pub record IsCounted (us : List RigUnit) (counts : List ℕ) (xs : List Ticket) : Type 0 where
  pub units : length counts ≡ length us
  pub count : (u : ℕ) → u < length us → slice_index_or counts u 0 ≡ count_by (is_of_unit u) xs
  pub few : (u : ℕ) → u < length us → count_by (is_of_unit u) xs ≤ (slice_index_or us u no_unit).depth

-- Of tickets whose stage is Built where they live, and Freed where they don't.
pub record IsHeld (version : ℕ) (units : List RigUnit) (retries : ℕ) (by_block by_tag : List (Option ℕ)) (rooms : List (Option Room)) (counts : List ℕ) (space : Space) (xs : List Ticket) : Type 0 where
  pub rig : IsRig version units retries 1
  pub blocks : Keyed 256 block_key by_block xs
  pub tags : Keyed 4096 tag_key by_tag xs
  pub bytes : All (λ (k : Ticket). k.tag < 256) xs
  pub buffers : All IsBuffer xs
  pub places : length rooms ≡ 256
  pub reports : (i : ℕ) → i < length xs → lives (at xs i) ≡ true → HasRoom (slice_index_or rooms (block_key (at xs i)) None) (at xs i)
  pub counted : IsCounted units counts xs
  pub base : space.base ≡ BUFFERS
  pub chunks : space.units ≡ CHUNK_COUNT
  pub out : AreOut space (held xs)

-- all of it, of the tickets themselves
abbrev pub IsKept : (version : ℕ) → List RigUnit → (retries : ℕ) → (by_block by_tag : List (Option ℕ)) → List (Option Room) → (counts : List ℕ) → Space → List Ticket → Type 0
IsKept version units retries by_block by_tag rooms counts space tickets = IsHeld version units retries by_block by_tag rooms counts space (map core tickets)
