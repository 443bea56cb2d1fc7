-- A device as its callers see it: what the conditions of its calls ask of its state. Source: own.
use Rattle.std.specs.Prelude.{◌≡◌, ℕ, Bool, true, false, List, [], ◌∷◌, length, Option, Some, None}
use Rattle.std.specs.List.{All, AllPairs}
use Rattle.rig_types.specs.declared.rig.Unit.{Unit as RigUnit}
use Rattle.rig_types.specs.Ranges.{IsUnit, Agree}
use Rattle.target_law.specs.declared.nexus.Nexus.{Nexus}
use Rattle.target_law.specs.Target.{Target, unit_at}
use Rattle.target_law.specs.Calls.{is_free, is_absent, nexus_of}
use Rattle.target_law.specs.Beginning.{has_place}
use Rattle.target_law.specs.Sound.{HaveFewTasks}
use Rattle.target_law.specs.Devices.{DeviceState}
use Rattle.target_law.specs.Lawful.{IsThere}

-- units of one target of a rig: their numbers are in range, they have distinct LUNs, and they are equally absent and equally rogue
pub record IsOneTarget (version : ℕ) (units : List RigUnit) : Type 0 where
  pub in_range : All (IsUnit version) units
  pub agree : AllPairs Agree units
  pub same : AllPairs (λ (a : RigUnit) (b : RigUnit). a.target ≡ b.target) units

-- the first unit breaks the rules
abbrev pub first_is_rogue : List RigUnit → Bool
first_is_rogue [] = false
first_is_rogue (r ∷ rs) = r.rogue

-- there is a unit with this LUN
abbrev pub HasUnit : DeviceState → ℕ → Type 0
HasUnit d lun = IsThere (unit_at d.target.units lun) (λ u. Unit {0})

-- the target isn't connected
abbrev pub IsFree : DeviceState → Type 0
IsFree d = is_free d.target.link ≡ true

-- the target isn't absent
abbrev pub IsPresent : DeviceState → Type 0
IsPresent d = is_absent d.target ≡ false

-- the unit of a nexus has a place for a task of its tag; it is so too where no nexus is named
abbrev pub place_for : Target → Option Nexus → Bool
place_for t (Some n) = has_place (unit_at t.units n.lun) n.tag
place_for t None = true

abbrev pub HasPlace : DeviceState → Type 0
HasPlace d = place_for d.target (nexus_of d.target.link) ≡ true

-- what a device keeps: eight places for units and a room for each, and no unit has more tasks than its depth, the connected one among them
pub record KeepsPlaces (d : DeviceState) : Type 0 where
  pub units : length d.target.units ≡ 8
  pub rooms : length d.rooms ≡ 8
  pub few : HaveFewTasks d.target
