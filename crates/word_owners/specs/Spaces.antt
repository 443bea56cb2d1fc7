-- Which parts of the buffer region live tickets own (own).
use Rattle.std.specs.Prelude.{◌≡◌, ◌≢◌, ◌⊎◌, ℕ, ◌<◌, ◌≤◌, Bool, true, List, length, slice_index, slice_index_or}
use Rattle.rig_types.specs.declared.rig.Unit.{Unit as RigUnit}
use Rattle.rig_types.specs.declared.step.Line.{Line}
use Rattle.unit_law.specs.Request.{RequestData}
use Rattle.host_map.specs.declared.TheConstants.{BUFFERS, CHUNK_COUNT}
use Rattle.dma_buddy.specs.Chunks.{Apart}
use Rattle.dma_buddy.specs.Regions.{IsRegion, IsOut}
use Rattle.desk_law.specs.declared.ticket.Piece.{Piece}
use Rattle.desk_law.specs.Desk.{DeskState, ticket, lives, desk_opened}
use Rattle.desk_law.specs.Blocks.{own}
use Rattle.desk_law.specs.Building.{Builds}
use Rattle.desk_law.specs.Calls.{Frees}

-- piece i of a ticket's buffer; an empty one stands where there is none
abbrev pub no_piece : Piece
no_piece = record { chunk = record { base = 0; size = 0 }; len = 0 }

abbrev pub piece_at : DeskState → (t i : ℕ) → Piece
piece_at d t i = slice_index_or (ticket d t).pieces i no_piece

abbrev pub IsPiece : DeskState → (t i : ℕ) → Type 0
IsPiece d t i = (lives (ticket d t) ≡ true) × (i < length (ticket d t).pieces)

-- The desk's space is that of the buffer region. The chunk of each piece of a live ticket is out of it and has room for the piece, and no two share
-- an address.
pub record OwnsSpace (d : DeskState) : Type 0 where
  pub region : IsRegion d.space
  pub base : d.space.base ≡ BUFFERS
  pub units : d.space.units ≡ CHUNK_COUNT
  pub out : (t i : ℕ) → IsPiece d t i → IsOut d.space (piece_at d t i).chunk
  pub fits : (t i : ℕ) → IsPiece d t i → (piece_at d t i).len ≤ (piece_at d t i).chunk.size
  pub apart : (t u i j : ℕ) → IsPiece d t i → IsPiece d u j → (t ≢ u) ⊎ (i ≢ j) → Apart (piece_at d t i).chunk (piece_at d u j).chunk

-- ---- laws

-- at the opening all chunks are free
abbrev pub OpeningOwns : Type 0
OpeningOwns = (version : ℕ) (units : List RigUnit) (retries : ℕ) (autosense : Bool) (submitters : ℕ) → OwnsSpace (desk_opened version units retries autosense submitters)

-- Build takes free chunks for the pieces of its ticket
abbrev pub BuildOwns : Type 0
BuildOwns = (old new : DeskState) (memory memory' : List ℕ) (l : Line) (r : RequestData) (t : ℕ) → Builds old memory l r t new memory' → OwnsSpace old → OwnsSpace new

-- Free gives the chunks of its ticket back
abbrev pub FreeOwns : Type 0
FreeOwns = (old new : DeskState) (t : ℕ) → lives (ticket old t) ≡ true → Frees old t new → OwnsSpace old → OwnsSpace new

-- so it stays where the space stays, and no ticket comes to life or has other pieces
abbrev pub StaysOwned : Type 0
StaysOwned =
    (old new : DeskState) → new.space ≡ old.space
    → ((t : ℕ) → lives (ticket new t) ≡ true → (lives (ticket old t) ≡ true) × ((ticket new t).pieces ≡ (ticket old t).pieces))
    → OwnsSpace old → OwnsSpace new

-- so the buffers of live tickets lie in the buffer region, and two of them share no byte
pub record AreApart (d : DeskState) : Type 0 where
  pub within : (t i : ℕ) → lives (ticket d t) ≡ true → i < length (own (ticket d t)) → (0x200000 ≤ slice_index (own (ticket d t)) i) × (slice_index (own (ticket d t)) i < 0x400000)
  pub apart : (t u i j : ℕ) → lives (ticket d t) ≡ true → lives (ticket d u) ≡ true → t ≢ u → i < length (own (ticket d t)) → j < length (own (ticket d u))
      → slice_index (own (ticket d t)) i ≢ slice_index (own (ticket d u)) j

abbrev pub BuffersOwned : Type 0
BuffersOwned = (d : DeskState) → OwnsSpace d → AreApart d
