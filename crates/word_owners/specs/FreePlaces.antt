-- Where a unit isn't full, Build finds a block and a tag that no live ticket has.
use Rattle.std.specs.Prelude.{◌≡◌, ◌≢◌, ℕ, ◌<◌, ◌≤◌, true, false, length}
use Rattle.rig_types.specs.Ranges.{IsRig}
use Rattle.host_map.specs.Places.{IsCommandBlock}
use Rattle.desk_law.specs.Desk.{DeskState, ticket, unit as unit_at, lives, live_count}
use Rattle.desk_law.specs.Refusals.{is_full}
use Rattle.desk_law.specs.Building.{free_block, free_tag}

-- live tickets are of units of the rig, and of each unit at most as many live as its depth
pub record HasDepths (d : DeskState) : Type 0 where
  pub unit : (t : ℕ) → lives (ticket d t) ≡ true → (ticket d t).unit < length d.units
  pub depth : (u : ℕ) → u < length d.units → live_count d u ≤ (unit_at d u).depth

-- the least free block is a command block of no live ticket, and the least free tag of the unit is a byte and that of none of its live tickets
pub record IsFreePlace (d : DeskState) (u : ℕ) : Type 0 where
  pub block : IsCommandBlock (free_block d)
  pub unused : (t : ℕ) → lives (ticket d t) ≡ true → (ticket d t).block ≢ free_block d
  pub tag : free_tag d u < 256
  pub untagged : (t : ℕ) → lives (ticket d t) ≡ true → (ticket d t).unit ≡ u → (ticket d t).tag ≢ free_tag d u

abbrev pub PlacesFree : Type 0
PlacesFree =
    (retries step_limit : ℕ) (d : DeskState) (u : ℕ) → IsRig d.version d.units retries step_limit → HasDepths d → u < length d.units → is_full d u ≡ false
    → IsFreePlace d u
