-- Selection and reselection. Sources: SCSI-2 6.1.3 selection, 6.1.4 reselection; own are the word by which a candidate is named, the order of
-- candidates, and that a selection loses to a reselection.
use Rattle.std.specs.Prelude.{ℕ, ◌/◌, ◌%◌, ◌==◌, ◌&&◌, nat_lt, not, is_none, Bool, true, false, List, length, map, flat_map, slice_get, Option, Some, None}
use Rattle.std.specs.List.{range_with_len, list_any}
use Rattle.rig_types.specs.declared.rig.Unit.{Unit as RigUnit}
use Rattle.chip_step.specs.declared.scsi_bus.Settled.{Settled}
use Rattle.chip_step.specs.declared.scsi_bus.Settled.TheVariants.{Selected, Reselected, TimedOut}
use Rattle.target_law.specs.Target.{LogicalUnit, unit_at}
use Rattle.target_law.specs.Calls.{answers, candidates, target_selected, target_reselected}
use Rattle.target_law.specs.Devices.{DeviceState}
use Rattle.bus_law.specs.Bus.{BusState, device_at, with_device}

-- ---- candidates

-- what may reselect: its target, its LUN, and its number among the unit's candidates, by rising tag from 0
pub record Candidate : Type 0 where
  pub target : ℕ
  pub lun : ℕ
  pub number : ℕ

abbrev pub candidate_count : Option LogicalUnit → ℕ
candidate_count None = 0
candidate_count (Some u) = candidates u

abbrev pub candidates_of : BusState → RigUnit → List Candidate
candidates_of b r =
    map (λ (n : ℕ). record { target = r.target; lun = r.lun; number = n }) (range_with_len 0 (candidate_count (unit_at (device_at b r.target).target.units r.lun)))

-- by the units of the rig in their order, and then by tag
abbrev pub all_candidates : List RigUnit → BusState → List Candidate
all_candidates units b = flat_map (candidates_of b) units

-- an ID has three bits
abbrev pub if_id : Bool → Candidate → Option Candidate
if_id true c = Some c
if_id false c = None

abbrev pub with_id : Option Candidate → Option Candidate
with_id None = None
with_id (Some c) = if_id (nat_lt c.target 8) c

-- a word that calls for a reselection names one of the candidates, where there is one
abbrev pub named_if : Bool → List Candidate → ℕ → Option Candidate
named_if true cs word = with_id (slice_get cs (word % 256 % length cs))
named_if false cs word = None

-- the bus is free, and bit 31 of the word is set
abbrev pub calls : BusState → ℕ → Bool
calls b word = is_none b.connected && word / 2147483648 % 2 == 1

abbrev pub candidate_named : List RigUnit → BusState → ℕ → Option Candidate
candidate_named units b word = named_if (calls b word) (all_candidates units b) word

abbrev pub target_of : Candidate → ℕ
target_of c = c.target

-- a unit that breaks the rules takes its tag from the word
abbrev pub device_reselected : DeviceState → ℕ → Candidate → DeviceState
device_reselected d word c = record d { target = target_reselected d.target c.lun c.number (word / 256 % 256) }

abbrev pub reselected : BusState → ℕ → Candidate → BusState
reselected b word c = record (with_device b c.target (device_reselected (device_at b c.target) word c)) { connected = Some c.target }

abbrev pub after_reselection : Option Candidate → ℕ → BusState → BusState
after_reselection None word b = b
after_reselection (Some c) word b = reselected b word c

-- ---- selection

-- on a free bus a target that is there answers
abbrev pub can_select : BusState → ℕ → Bool
can_select b id = is_none b.connected && answers (device_at b id).target

-- a selection loses to a reselection; nobody answers on a bus that isn't free
abbrev pub settles : Option Candidate → (there : Bool) → Settled
settles (Some c) there = Reselected c.target
settles None true = Selected
settles None false = TimedOut

abbrev pub device_selected : DeviceState → DeviceState
device_selected d = record d { target = target_selected d.target }

abbrev pub selected : BusState → ℕ → BusState
selected b id = record (with_device b id (device_selected (device_at b id))) { connected = Some id }

abbrev pub after_selection : Option Candidate → (there : Bool) → (id word : ℕ) → BusState → BusState
after_selection (Some c) there id word b = reselected b word c
after_selection None true id word b = selected b id
after_selection None false id word b = b
