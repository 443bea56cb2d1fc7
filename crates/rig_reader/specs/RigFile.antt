-- The rig file: its schema, the rig that a table spells, and a table's faults in the order in which they count. Own.
use Rattle.std.specs.Prelude.{ℕ, ◌+◌, ◌==◌, Bool, true, false, not, ◌&&◌, ◌||◌, nat_lt, List, [], ◌∷◌, ◌++◌, codes, map, Option, Some, None, if◌then◌else◌}
use Rattle.std.specs.List.{list_any}
use Rattle.rig_types.specs.declared.rig.Pattern.{Pattern}
use Rattle.rig_types.specs.declared.rig.Pattern.TheVariants as pattern
use Rattle.rig_types.specs.declared.rig.Unit.{Unit}
use Rattle.rig_types.specs.declared.rig.Rig.{Rig}
use Rattle.rig_types.specs.Ranges.{most_depth, depths}
use Rattle.toml.specs.Data.{Data, Items, no_items, item, Members}
use Rattle.file_keys.specs.Faults.{Fault, first, clash, earlier as before}
use Rattle.file_keys.specs.Keys.{Key, number_key, choice_key, flag_key, list_key, key_fault, value_of, items_of, unknown_fault, entry_fault, members_in, prefix_of, names_of}

-- ---- the keys of a `unit`: name, values, default

abbrev pub target_key : Key
target_key = number_key (codes "target") 0 6 None

abbrev pub lun_key : Key
lun_key = number_key (codes "lun") 0 7 None

abbrev pub blocks_key : Key
blocks_key = number_key (codes "blocks") 1 4096 None

abbrev pub pattern_key : Key
pattern_key = choice_key (codes "pattern") (codes "zero" ∷ codes "count" ∷ []) (Some 0)

abbrev pub depth_key : ℕ → Key
depth_key version = number_key (codes "depth") 1 (most_depth version) (Some 16)

abbrev pub disconnects_key : Key
disconnects_key = number_key (codes "disconnects") 0 8 (Some 2)

abbrev pub refusals_key : Key
refusals_key = number_key (codes "refusals") 0 8 (Some 0)

abbrev pub absent_key : Key
absent_key = flag_key (codes "absent") (Some 0)

abbrev pub rogue_key : Key
rogue_key = flag_key (codes "rogue") (Some 0)

-- in the order in which they are checked
abbrev pub unit_keys : ℕ → List Key
unit_keys version = target_key ∷ lun_key ∷ blocks_key ∷ pattern_key ∷ depth_key version ∷ disconnects_key ∷ refusals_key ∷ absent_key ∷ rogue_key ∷ []

-- ---- what a unit's table says

abbrev pub pattern_of : ℕ → Pattern
pattern_of place = if place == 0 then pattern.Zero else pattern.Count

abbrev pub unit_of : ℕ → Members → Unit
unit_of version ms = record {
  target = value_of target_key ms;
  lun = value_of lun_key ms;
  blocks = value_of blocks_key ms;
  pattern = pattern_of (value_of pattern_key ms);
  depth = value_of (depth_key version) ms;
  disconnects = value_of disconnects_key ms;
  refusals = value_of refusals_key ms;
  absent = value_of absent_key ms == 1;
  rogue = value_of rogue_key ms == 1;
}

-- ---- what is wrong with it

-- two flags differ
abbrev pub differ : Bool → Bool → Bool
differ true b = not b
differ false b = b

-- An earlier unit e and a unit u: they have one target and LUN; or one target, of which one is absent and the other isn't, or
-- one is rogue and the other isn't.
abbrev pub has_place : Unit → Unit → Bool
has_place e u = e.target == u.target && e.lun == u.lun

abbrev pub absence_differs : Unit → Unit → Bool
absence_differs e u = e.target == u.target && differ e.absent u.absent

abbrev pub rogue_differs : Unit → Unit → Bool
rogue_differs e u = e.target == u.target && differ e.rogue u.rogue

-- what contradicts the units before it, or itself
abbrev pub clashes : List ℕ → List Unit → Unit → List (Option Fault)
clashes prefix earlier u =
    clash (prefix ++ codes "lun") (list_any (λ (e : Unit). has_place e u) earlier)
    ∷ clash (prefix ++ codes "absent") (list_any (λ (e : Unit). absence_differs e u) earlier)
    ∷ clash (prefix ++ codes "rogue") (list_any (λ (e : Unit). rogue_differs e u) earlier || (u.absent && u.rogue))
    ∷ []

-- the first fault at a unit's keys
abbrev pub keys_fault : ℕ → List ℕ → Members → Option Fault
keys_fault version prefix ms = first (map (λ (k : Key). key_fault prefix k ms) (unit_keys version))

-- the first fault of a unit's table: at its keys, then a clash, then a key that is none of them
abbrev pub unit_table_fault : ℕ → List ℕ → List Unit → Members → Option Fault
unit_table_fault version prefix earlier ms =
    first (keys_fault version prefix ms
    ∷ first (clashes prefix earlier (unit_of version ms))
    ∷ unknown_fault prefix (names_of (unit_keys version)) ms
    ∷ [])

abbrev pub unit_in : ℕ → Data → Unit
unit_in version d = unit_of version (members_in d)

abbrev pub unit_prefix : ℕ → List ℕ
unit_prefix n = prefix_of [] (codes "unit") n

-- an entry of the list, after the units before it
abbrev pub unit_fault : ℕ → ℕ → List Unit → Data → Option Fault
unit_fault version n earlier d =
    first (entry_fault [] (codes "unit") n d ∷ unit_table_fault version (unit_prefix n) earlier (members_in d) ∷ [])

abbrev pub units_of : ℕ → Items → List Unit
units_of version no_items = []
units_of version (item d ds) = unit_in version d ∷ units_of version ds

-- the entries from the n-th on
abbrev pub units_fault : ℕ → ℕ → List Unit → Items → Option Fault
units_fault version n earlier no_items = None
units_fault version n earlier (item d ds) =
    before (unit_fault version n earlier d) (units_fault version (n + 1) (earlier ++ unit_in version d ∷ []) ds)

-- ---- the keys of the file: name, values, default

abbrev pub version_key : Key
version_key = number_key (codes "version") 1 2 None

abbrev pub retries_key : Key
retries_key = number_key (codes "retries") 0 8 (Some 3)

abbrev pub step_limit_key : Key
step_limit_key = number_key (codes "step_limit") 1 4194304 (Some 1048576)

abbrev pub autosense_key : ℕ → Key
autosense_key version = flag_key (codes "autosense") (Some (if version == 2 then 1 else 0))

abbrev pub unit_key : Key
unit_key = list_key (codes "unit") 1 16 None

-- in the order in which they are checked
abbrev pub rig_keys : ℕ → List Key
rig_keys version = version_key ∷ retries_key ∷ step_limit_key ∷ autosense_key version ∷ unit_key ∷ []

-- ---- what the file says, and what is wrong with it

-- a rig without the proof that it holds
pub record RigData : Type 0 where
  pub version : ℕ
  pub units : List Unit
  pub retries : ℕ
  pub step_limit : ℕ
  pub autosense : Bool

abbrev pub plain : Rig → RigData
plain r = record { version = r.version; units = r.units; retries = r.retries; step_limit = r.step_limit; autosense = r.autosense }

-- the rig that a table spells, where nothing is wrong with it
abbrev pub rig_of : Members → RigData
rig_of ms =
    let version = value_of version_key ms in
    record {
      version = version;
      units = units_of version (items_of unit_key ms);
      retries = value_of retries_key ms;
      step_limit = value_of step_limit_key ms;
      autosense = value_of (autosense_key version) ms == 1;
    }

-- The first fault of a file: at its keys, then in its units in their order, then that their depths are together above 256,
-- then a key that is none of its own.
abbrev pub rig_fault : Members → Option Fault
rig_fault ms =
    let version = value_of version_key ms in
    let units = items_of unit_key ms in
    first (first (map (λ (k : Key). key_fault [] k ms) (rig_keys version))
    ∷ units_fault version 0 [] units
    ∷ clash (codes "unit") (nat_lt 256 (depths (units_of version units)))
    ∷ unknown_fault [] (names_of (rig_keys version)) ms
    ∷ [])
