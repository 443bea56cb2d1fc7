-- What the script writes, address by address (own).
use Rattle.std.specs.Prelude.{ℕ, ℤ, pos, nat_eq, if◌then◌else◌, true, List, [], ◌∷◌, Option, Some, None}
use Rattle.host_map.specs.declared.TheConstants.{FRONT, RINGP, DONEP, CUR, MSGIN}
use Rattle.cmd_block.specs.Block.{offset}
use Rattle.cmd_block.specs.declared.Field.TheVariants.{Lastp, Savep, State, Gate, StatCount}
use Rattle.chip_step.specs.Addresses.{place_of}
use Rattle.chip_step.specs.Chip.{Chip}
use Rattle.chip_rows.specs.Touched.{Range, range, range_at, entry_of, of_block, came}
use Rattle.driver_script.specs.Moves.{data_move}

pub data Place : Type 0 where
  Nowhere : Place
  -- so many bytes at an address
  Fixed : ℕ → ℕ → Place
  -- so many bytes at an offset from DSA
  Relative : ℕ → ℤ → Place
  -- the bytes that come by the table entry at an offset from DSA
  Entry : ℤ → Place

abbrev field : ℕ → Place
field o = Relative 4 (pos o)

-- The instructions that store a word or move a message or a status in. At 250 DSA is a slot of the done ring, else a
-- block.
abbrev pub control_writes : List (ℕ × Place)
control_writes =
    (0x068, Fixed 4 RINGP) ∷ (0x078, field (offset Gate)) ∷ (0x0C8, Entry (pos (offset StatCount))) ∷
    (0x0D8, Fixed 1 MSGIN) ∷ (0x110, field (offset Savep)) ∷ (0x130, field (offset Lastp)) ∷ (0x168, Fixed 1 MSGIN) ∷
    (0x180, Fixed 1 MSGIN) ∷ (0x1F8, Fixed 4 RINGP) ∷ (0x210, Fixed 4 RINGP) ∷ (0x220, field (offset State)) ∷
    (0x230, field (offset Gate)) ∷ (0x238, Fixed 4 CUR) ∷ (0x250, field 0) ∷ (0x260, Fixed 4 DONEP) ∷
    (0x3D0, field (offset Lastp)) ∷ (0x450, Fixed 4 FRONT) ∷ []

abbrev pub listed : List (ℕ × Place) → ℕ → Place
listed [] a = Nowhere
listed (x ∷ xs) a = if nat_eq x.0 a then x.1 else listed xs a

-- a data move writes where it moves data in; any other instruction as it is listed
abbrev pub by_move : Option (ℤ × ℕ) → Place → Place
by_move None other = other
by_move (Some x) other = if nat_eq x.1 1 then Entry x.0 else Nowhere

-- where the instruction at an address of the script writes
unfoldable pub footprint : ℕ → Place
footprint a = by_move (data_move a) (listed control_writes a)

-- the addresses of a place, after a move that leaves so much in DBC; none where they don't all lie in memory
abbrev pub ranges : {B : Type 0} → Place → Chip B → (left : ℕ) → List Range
ranges Nowhere chip left = []
ranges (Fixed n a) chip left = range a n
ranges (Relative n o) chip left = range_at (place_of chip.memory chip.regs.dsa o n) n
ranges (Entry o) chip left = of_block (came true left) (entry_of chip.memory (place_of chip.memory chip.regs.dsa o 8))
