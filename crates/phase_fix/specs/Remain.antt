-- Data pointers: script addresses that say what of a command is still to be moved (own). Memory is seen by its words.
use Rattle.std.specs.Prelude.{◌≢◌, ℕ, zero, suc, ◌+◌, ◌-◌, ◌%◌, ◌^◌, List, [], ◌++◌, Option, Some, None}
use Rattle.std.specs.List.{range_with_len}
use Rattle.cmd_block.specs.Block.{offset}
use Rattle.cmd_block.specs.declared.Field.{Field}
use Rattle.cmd_block.specs.declared.Field.TheVariants.{CtxReturn}
use Rattle.driver_script.specs.Script.{label_of}
use Rattle.driver_script.specs.declared.labels.Name.TheVariants as label
use Rattle.phase_fix.specs.declared.moves.Entry.{Entry}
use Rattle.phase_fix.specs.declared.moves.Entry.TheVariants.{Segment, Context}
use Rattle.phase_fix.specs.declared.moves.DataMove.{DataMove}
use Rattle.phase_fix.specs.Moves.{count_field, address_field, move_at}

-- a field of a block
abbrev pub field : (ℕ → ℕ) → ℕ → Field → ℕ
field w block f = w (block + offset f)

-- the table entry of a data move: its count is bits 23 to 0 of the first word (SYM53C810A), its address the second word
abbrev pub count_of : (ℕ → ℕ) → ℕ → Entry → ℕ
count_of w block e = field w block (count_field e) % 2 ^ 24

abbrev pub address_of : (ℕ → ℕ) → ℕ → Entry → ℕ
address_of w block e = field w block (address_field e)

-- its addresses, one for each byte
abbrev pub range_of : (ℕ → ℕ) → ℕ → Entry → List ℕ
range_of w block e = range_with_len (address_of w block e) (count_of w block e)

-- the addresses of so many segments from segment j on
abbrev pub segments : (ℕ → ℕ) → ℕ → ℕ → ℕ → List ℕ
segments w block zero j = []
segments w block (suc n) j = range_of w block (Segment j) ++ segments w block n (j + 1)

-- a segment and all later ones
abbrev pub segments_from : (ℕ → ℕ) → ℕ → ℕ → List ℕ
segments_from w block j = segments w block (16 - j) j

-- the segment that a move begins with; 16, one past the last, where it is no segment's move
abbrev pub segment_of_entry : Entry → ℕ
segment_of_entry (Segment j) = j
segment_of_entry (Context k) = 16

abbrev pub segment_of_move : Option DataMove → ℕ
segment_of_move None = 16
segment_of_move (Some x) = segment_of_entry x.entry

-- what follows a context that returns to this address; a context never returns to a context
abbrev pub following : (ℕ → ℕ) → ℕ → ℕ → List ℕ
following w block a = segments_from w block (segment_of_move (move_at a))

-- what an entry and all that follows it denote
abbrev pub remain_at_entry : (ℕ → ℕ) → ℕ → Entry → List ℕ
remain_at_entry w block (Segment j) = segments_from w block j
remain_at_entry w block (Context k) = range_of w block (Context k) ++ following w block (field w block (CtxReturn k))

abbrev pub remain_at_move : (ℕ → ℕ) → ℕ → Option DataMove → List ℕ
remain_at_move w block None = []
remain_at_move w block (Some x) = remain_at_entry w block x.entry

-- The addresses that a data pointer denotes, in the order in which they are moved. A segment move denotes its segment
-- and all later ones, a context move the context and what follows it; OVER, INDONE, ALLMOVED and all else denote
-- nothing.
abbrev pub remain : (ℕ → ℕ) → ℕ → ℕ → List ℕ
remain w block pointer = remain_at_move w block (move_at pointer)

-- the address is no context's move
abbrev pub IsNoContext : ℕ → Type 0
IsNoContext a = (a ≢ label_of label.Pmin0) × (a ≢ label_of label.Pmin1) × (a ≢ label_of label.Pmout0) × (a ≢ label_of label.Pmout1)

-- neither context of a block returns to a context
pub record ReturnsToSegments (w : ℕ → ℕ) (block : ℕ) : Type 0 where
  pub first : IsNoContext (field w block (CtxReturn 0))
  pub second : IsNoContext (field w block (CtxReturn 1))
