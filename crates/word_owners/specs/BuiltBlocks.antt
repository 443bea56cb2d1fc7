-- The block of a ticket as Build writes it.
use Rattle.std.specs.Prelude.{◌≡◌, ◌≢◌, ℕ, ◌^◌, ◌<◌, ◌≤◌, false, List, length, slice_index_or}
use Rattle.scsi_words.specs.declared.phases.kinds.Direction.TheVariants as direction
use Rattle.bench_words.specs.Memory.{word_at}
use Rattle.rig_types.specs.declared.rig.Unit.{Unit as RigUnit}
use Rattle.host_map.specs.Places.{IsCommandBlock}
use Rattle.desk_law.specs.declared.stage.Stage.TheVariants.{Built}
use Rattle.desk_law.specs.declared.ticket.Ticket.{Ticket}
use Rattle.desk_law.specs.Blocks.{with_block}
use Rattle.word_owners.specs.Tickets.{fixed_of}
use Rattle.word_owners.specs.Parts.{IsBlock}
use Rattle.word_owners.specs.Spaces.{no_piece}

-- It has a command block, and at most 16 pieces: at least one where data move, none of them empty, each shorter than a count may say and at an
-- address of a word.
pub record IsNew (k : Ticket) : Type 0 where
  pub block : IsCommandBlock k.block
  pub unchecked : k.checked ≡ false
  pub few : length k.pieces ≤ 16
  pub some : k.direction ≢ direction.None → 0 < length k.pieces
  pub filled : (i : ℕ) → i < length k.pieces → 0 < (slice_index_or k.pieces i no_piece).len
  pub counted : (i : ℕ) → i < length k.pieces → (slice_index_or k.pieces i no_piece).len < 2 ^ 24
  pub placed : (i : ℕ) → i < length k.pieces → (slice_index_or k.pieces i no_piece).chunk.base < 2 ^ 32

-- the block of such a ticket is one that the invariant asks for: both data pointers denote the whole buffer
abbrev pub BlockBuilt : Type 0
BlockBuilt =
    (memory : List ℕ) (u : RigUnit) (k : Ticket) (cdb : List ℕ) → length memory ≡ 0x400000 → IsNew k → u.target < 8 → length cdb ≤ 12
    → IsBlock (word_at (with_block memory u k cdb)) Built (fixed_of k) u.target
