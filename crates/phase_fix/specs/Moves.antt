-- The data moves of the driver script: sixteen segment moves and two context moves for each data phase (own).
use Rattle.std.specs.Prelude.{ℕ, ◌+◌, ◌-◌, ◌*◌, ◌/◌, ◌%◌, ◌<◌, ◌&&◌, nat_eq, nat_lt, nat_le, if◌then◌else◌, Option, Some, None}
use Rattle.std.specs.Option.{option_or, option_map}
use Rattle.cmd_block.specs.declared.Field.{Field}
use Rattle.cmd_block.specs.declared.Field.TheVariants.{SegCount, SegAt, CtxCount, CtxAt}
use Rattle.driver_script.specs.Script.{label_of}
use Rattle.driver_script.specs.declared.labels.Name.TheVariants as label
use Rattle.phase_fix.specs.declared.moves.DataPhase.{DataPhase}
use Rattle.phase_fix.specs.declared.moves.DataPhase.TheVariants.{In, Out}
use Rattle.phase_fix.specs.declared.moves.Entry.{Entry}
use Rattle.phase_fix.specs.declared.moves.Entry.TheVariants.{Segment, Context}
use Rattle.phase_fix.specs.declared.moves.DataMove.{DataMove}

-- there are 16 segments and two contexts
abbrev pub IsEntry : Entry → Type 0
IsEntry (Segment j) = j < 16
IsEntry (Context k) = k < 2

-- the fields of an entry
abbrev pub count_field : Entry → Field
count_field (Segment j) = SegCount j
count_field (Context k) = CtxCount k

abbrev pub address_field : Entry → Field
address_field (Segment j) = SegAt j
address_field (Context k) = CtxAt k

-- where the segment moves of a phase begin
abbrev pub first_segment : DataPhase → ℕ
first_segment In = label_of label.Datain
first_segment Out = label_of label.Dataout

-- the address of a context's move in a phase
abbrev pub context_label : DataPhase → ℕ → ℕ
context_label In k = if nat_eq k 0 then label_of label.Pmin0 else label_of label.Pmin1
context_label Out k = if nat_eq k 0 then label_of label.Pmout0 else label_of label.Pmout1

-- the number of an address among so many places, so far from one to the next, from the first one on
abbrev pub number_of : ℕ → ℕ → ℕ → ℕ → Option ℕ
number_of first apart places a =
    if (nat_le first a && nat_lt a (first + apart * places)) && nat_eq ((a - first) % apart) 0
    then Some ((a - first) / apart) else None

-- segment moves stand 8 apart, context moves 18
abbrev pub segment_move : DataPhase → ℕ → Option DataMove
segment_move phase a = option_map (λ j. record { phase = phase; entry = Segment j }) (number_of (first_segment phase) 8 16 a)

abbrev pub context_move : DataPhase → ℕ → Option DataMove
context_move phase a = option_map (λ k. record { phase = phase; entry = Context k }) (number_of (context_label phase 0) 0x18 2 a)

-- the data move at a script address
unfoldable pub move_at : ℕ → Option DataMove
move_at a = option_or (option_or (option_or (segment_move In a) (segment_move Out a)) (context_move In a)) (context_move Out a)
