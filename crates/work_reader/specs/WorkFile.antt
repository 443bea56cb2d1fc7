-- The work file: its schema, the work that a table spells, and a table's faults in the order in which they count. Own.
use Rattle.std.specs.Prelude.{ℕ, ◌≡◌, ◌≤◌, ◌+◌, ◌%◌, ◌==◌, Bool, false, not, ◌||◌, nat_lt, zero, suc, List, [], ◌∷◌, ◌++◌, codes, map, sum, sum_by, length, slice_index, Option, Some, None, option_map, if◌then◌else◌}
use Rattle.std.specs.Prelude.{Vec}
use Rattle.std.specs.declared.alloc.Global.{Global}
use Rattle.std.specs.List.{All}
use Rattle.scsi_words.specs.declared.phases.kinds.Direction.{Direction}
use Rattle.scsi_words.specs.declared.phases.kinds.Direction.TheVariants as direction
use Rattle.rig_types.specs.declared.commands.WhenFull.{WhenFull}
use Rattle.rig_types.specs.declared.commands.WhenFull.TheVariants as full
use Rattle.rig_types.specs.declared.commands.Command.{Command}
use Rattle.rig_types.specs.declared.acts.Act.{Act}
use Rattle.rig_types.specs.declared.acts.ActKind.{ActKind}
use Rattle.rig_types.specs.declared.acts.ActKind.TheVariants as act
use Rattle.rig_types.specs.declared.work.Work.{Work}
use Rattle.work_reader.specs.declared.spelled.Spelled.{Spelled}
use Rattle.toml.specs.Data.{Data, Members, as_integer}
use Rattle.file_keys.specs.Faults.{Fault, at, first, clash}
use Rattle.file_keys.specs.Keys.{Key, number_key, choice_key, flag_key, list_key, any_list_key, hex_key, key_fault, value_of, items_of, bytes_of, unknown_fault, entry_fault, names_of, number_fault, natural, entries_fault, entries_of, members_in, prefix_of, entry_key}

-- ---- the keys of a `command`: name, values, default

abbrev pub unit_key : Key
unit_key = number_key (codes "unit") 0 255 None

abbrev pub cdb_key : Key
cdb_key = hex_key (codes "cdb") 16

abbrev pub segments_key : Key
segments_key = list_key (codes "segments") 0 64 (Some 0)

abbrev pub direction_key : Key
direction_key = choice_key (codes "direction") (codes "in" ∷ codes "out" ∷ codes "none" ∷ []) (Some 2)

abbrev pub fill_key : Key
fill_key = number_key (codes "fill") 0 255 (Some 0)

abbrev pub when_full_key : Key
when_full_key = choice_key (codes "when_full") (codes "wait" ∷ codes "skip" ∷ []) (Some 0)

abbrev pub wait_key : Key
wait_key = flag_key (codes "wait") (Some 0)

-- in the order in which they are checked
abbrev pub command_keys : List Key
command_keys = unit_key ∷ cdb_key ∷ segments_key ∷ direction_key ∷ fill_key ∷ when_full_key ∷ wait_key ∷ []

abbrev pub direction_of : ℕ → Direction
direction_of place = if place == 0 then direction.In else if place == 1 then direction.Out else direction.None

abbrev pub when_full_of : ℕ → WhenFull
when_full_of place = if place == 0 then full.Wait else full.Skip

-- ---- what a command's table says, and what is wrong with it

-- a command as its table spells it: the fill stands in place of the bytes
pub record PlainSpelled : Type 0 where
  pub unit : ℕ
  pub cdb : List ℕ
  pub segments : List ℕ
  pub direction : Direction
  pub fill : ℕ
  pub when_full : WhenFull
  pub wait : Bool

-- a command that is read, without where its lists lie in memory
abbrev pub plain_spelled : Spelled → PlainSpelled
plain_spelled c = record { unit = c.unit; cdb = c.cdb.items; segments = c.segments.items; direction = c.direction; fill = c.fill; when_full = c.when_full; wait = c.wait }

-- the lists of a command that is read are in range
pub record IsSpelled (c : Spelled) : Type 0 where
  pub cdb : length c.cdb.items ≤ 16
  pub segments : length c.segments.items ≤ 64
  pub each_segment : All (λ n. n ≤ 131072) c.segments.items

-- what is wrong with the n-th segment
abbrev pub segment_fault : List ℕ → ℕ → Data → Option Fault
segment_fault prefix n d = option_map (at (entry_key prefix (codes "segments") n)) (number_fault 0 131072 (as_integer d))

abbrev pub segment_of : Data → ℕ
segment_of d = natural (as_integer d)

abbrev pub segments_fault : List ℕ → Members → Option Fault
segments_fault prefix ms = entries_fault (segment_fault prefix) 0 (items_of segments_key ms)

abbrev pub segments_of : Members → List ℕ
segments_of ms = entries_of segment_of (items_of segments_key ms)

abbrev pub command_of : Members → PlainSpelled
command_of ms = record {
  unit = value_of unit_key ms;
  cdb = bytes_of cdb_key ms;
  segments = segments_of ms;
  direction = direction_of (value_of direction_key ms);
  fill = value_of fill_key ms;
  when_full = when_full_of (value_of when_full_key ms);
  wait = value_of wait_key ms == 1;
}

-- The first fault of a command's table: at its keys, where each segment comes before the keys after them, then a key that is
-- none of them.
abbrev pub command_table_fault : List ℕ → Members → Option Fault
command_table_fault prefix ms =
    first (key_fault prefix unit_key ms
    ∷ key_fault prefix cdb_key ms
    ∷ key_fault prefix segments_key ms
    ∷ segments_fault prefix ms
    ∷ key_fault prefix direction_key ms
    ∷ key_fault prefix fill_key ms
    ∷ key_fault prefix when_full_key ms
    ∷ key_fault prefix wait_key ms
    ∷ unknown_fault prefix (names_of command_keys) ms
    ∷ [])

abbrev pub command_fault : List ℕ → ℕ → Data → Option Fault
command_fault prefix n d =
    first (entry_fault prefix (codes "command") n d ∷ command_table_fault (prefix_of prefix (codes "command") n) (members_in d) ∷ [])

abbrev pub command_in : Data → PlainSpelled
command_in d = command_of (members_in d)

-- ---- a `submitter`

-- the commands that are read, by submitter
abbrev pub views : List (Vec Spelled Global) → List (List PlainSpelled)
views ss = map (λ (s : Vec Spelled Global). map plain_spelled s.items) ss

abbrev pub command_key : Key
command_key = any_list_key (codes "command")

-- the first fault of a submitter's table: at its list, in its commands in their order, then another key
abbrev pub submitter_table_fault : List ℕ → Members → Option Fault
submitter_table_fault prefix ms =
    first (key_fault prefix command_key ms
    ∷ entries_fault (command_fault prefix) 0 (items_of command_key ms)
    ∷ unknown_fault prefix (names_of (command_key ∷ [])) ms
    ∷ [])

abbrev pub submitter_fault : ℕ → Data → Option Fault
submitter_fault n d =
    first (entry_fault [] (codes "submitter") n d ∷ submitter_table_fault (prefix_of [] (codes "submitter") n) (members_in d) ∷ [])

abbrev pub submitter_of : Members → List PlainSpelled
submitter_of ms = entries_of command_in (items_of command_key ms)

abbrev pub submitter_in : Data → List PlainSpelled
submitter_in d = submitter_of (members_in d)

-- ---- the keys of an `act`: name, values, default

abbrev pub kind_key : Key
kind_key = choice_key (codes "kind") (codes "abort" ∷ codes "device" ∷ codes "bus" ∷ []) None

abbrev pub line_submitter_key : Key
line_submitter_key = number_key (codes "submitter") 0 65535 None

abbrev pub line_command_key : Key
line_command_key = number_key (codes "command") 0 4294967295 None

abbrev pub target_key : Key
target_key = number_key (codes "target") 0 6 None

abbrev pub after_key : Key
after_key = number_key (codes "after") 0 4294967295 (Some 0)

-- The keys of a kind, between `kind` and `after`: an abort's line, a device act's target, none of a bus act.
abbrev pub kind_keys : ℕ → List Key
kind_keys kind = if kind == 0 then line_submitter_key ∷ line_command_key ∷ [] else if kind == 1 then target_key ∷ [] else []

-- ---- what an act's table says, and what is wrong with it

abbrev pub kind_of : ℕ → Members → ActKind
kind_of kind ms =
    if kind == 0 then act.Abort (record { submitter = value_of line_submitter_key ms; number = value_of line_command_key ms })
    else if kind == 1 then act.Device (value_of target_key ms)
    else act.Bus

-- a device act's target
pub record HasTarget (k : ActKind) : Type 0 where
  pub small : (t : ℕ) → k ≡ act.Device t → t ≤ 6

abbrev pub act_of : Members → Act
act_of ms = record { kind = kind_of (value_of kind_key ms) ms; after = value_of after_key ms }

abbrev pub act_in : Data → Act
act_in d = act_of (members_in d)

-- an abort names a line that isn't there, where the submitters have so many commands
abbrev pub no_line : List ℕ → ActKind → Bool
no_line counts (act.Abort l) = not (nat_lt l.number (slice_index counts l.submitter))
no_line counts _ = false

abbrev pub kind_fault : List ℕ → ℕ → Members → Option Fault
kind_fault prefix kind ms = first (map (λ (k : Key). key_fault prefix k ms) (kind_keys kind))

-- The first fault of an act's table: at its keys, then a line that isn't there, then more lines to wait for than there are,
-- then a key that is none of its kind's.
abbrev pub act_table_fault : List ℕ → List ℕ → Members → Option Fault
act_table_fault prefix counts ms =
    let kind = value_of kind_key ms in
    first (key_fault prefix kind_key ms
    ∷ kind_fault prefix kind ms
    ∷ key_fault prefix after_key ms
    ∷ clash (prefix ++ codes "command") (no_line counts (kind_of kind ms))
    ∷ clash (prefix ++ codes "after") (nat_lt (sum counts) (value_of after_key ms))
    ∷ unknown_fault prefix (names_of (kind_key ∷ after_key ∷ kind_keys kind)) ms
    ∷ [])

abbrev pub act_fault : List ℕ → ℕ → Data → Option Fault
act_fault counts n d =
    first (entry_fault [] (codes "act") n d ∷ act_table_fault (prefix_of [] (codes "act") n) counts (members_in d) ∷ [])

-- ---- buffers

-- the first n bytes of a buffer: byte i is (fill + i) mod 256
abbrev pub buffer : ℕ → ℕ → List ℕ
buffer fill zero = []
buffer fill (suc n) = buffer fill n ++ ((fill + n) % 256) ∷ []

-- a command without where it lies in memory, and without the proof that its request holds
pub record PlainCommand : Type 0 where
  pub unit : ℕ
  pub cdb : List ℕ
  pub segments : List ℕ
  pub direction : Direction
  pub bytes : List ℕ
  pub when_full : WhenFull
  pub wait : Bool

abbrev pub plain : Command → PlainCommand
plain c = record { unit = c.request.unit; cdb = c.request.cdb; segments = c.request.segments; direction = c.request.direction; bytes = c.request.bytes; when_full = c.when_full; wait = c.wait }

-- the command with its bytes
abbrev pub filled : PlainSpelled → PlainCommand
filled c = record { unit = c.unit; cdb = c.cdb; segments = c.segments; direction = c.direction; bytes = buffer c.fill (sum c.segments); when_full = c.when_full; wait = c.wait }

-- ---- the keys of the file: name, values, default

abbrev pub version_key : Key
version_key = number_key (codes "version") 1 1 None

abbrev pub submitter_key : Key
submitter_key = list_key (codes "submitter") 0 16 (Some 0)

abbrev pub act_key : Key
act_key = list_key (codes "act") 0 64 (Some 0)

-- in the order in which they are checked
abbrev pub work_keys : List Key
work_keys = version_key ∷ submitter_key ∷ act_key ∷ []

-- ---- what the file says, and what is wrong with it

abbrev pub submitters_of : Members → List (List PlainSpelled)
submitters_of ms = entries_of submitter_in (items_of submitter_key ms)

-- how many commands each submitter has
abbrev pub counts_of : List (List PlainSpelled) → List ℕ
counts_of ss = map (λ (s : List PlainSpelled). length s) ss

-- the bytes of all segments
abbrev pub command_bytes : PlainSpelled → ℕ
command_bytes c = sum c.segments

abbrev pub total_bytes : List (List PlainSpelled) → ℕ
total_bytes ss = sum_by (λ (s : List PlainSpelled). sum_by command_bytes s) ss

-- more than 4,096 commands, or more than 64 MiB in all segments together
abbrev pub is_too_large : List (List PlainSpelled) → Bool
is_too_large ss = nat_lt 4096 (sum (counts_of ss)) || nat_lt 67108864 (total_bytes ss)

-- The first fault of a file: at its keys, where the tables of a list come before the keys after it, then that it is too
-- large, then a key that is none of its own.
abbrev pub work_fault : Members → Option Fault
work_fault ms =
    let ss = submitters_of ms in
    first (key_fault [] version_key ms
    ∷ key_fault [] submitter_key ms
    ∷ entries_fault submitter_fault 0 (items_of submitter_key ms)
    ∷ key_fault [] act_key ms
    ∷ entries_fault (act_fault (counts_of ss)) 0 (items_of act_key ms)
    ∷ clash (codes "submitter") (is_too_large ss)
    ∷ unknown_fault [] (names_of work_keys) ms
    ∷ [])

-- a work without the proofs that it holds
pub record WorkData : Type 0 where
  pub submitters : List (List PlainCommand)
  pub acts : List Act

abbrev pub plain_work : Work → WorkData
plain_work w = record { submitters = map (λ (s : List Command). map plain s) w.submitters; acts = w.acts }

-- the work that a table spells, where nothing is wrong with it
abbrev pub work_of : Members → WorkData
work_of ms = record {
  submitters = map (λ (s : List PlainSpelled). map filled s) (submitters_of ms);
  acts = entries_of act_in (items_of act_key ms);
}
