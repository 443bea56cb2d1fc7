-- The ranges of a rig's numbers, and how its units agree. Source: own, as the rig file is.
use Rattle.std.specs.Prelude.{◌≡◌, ℕ, ◌≤◌, ◌==◌, true, false, List, length, sum_by, if◌then◌else◌}
use Rattle.std.specs.List.{All, AllPairs}
use Rattle.rig_types.specs.declared.rig.Unit.{Unit}

-- the most tickets of one unit: in version 1 a tag is a multiple of 4, in version 2 any byte
abbrev pub most_depth : ℕ → ℕ
most_depth version = if version == 2 then 256 else 64

-- the numbers of a unit are in range
pub record IsInRange (version : ℕ) (u : Unit) : Type 0 where
  pub target : u.target ≤ 6
  pub lun : u.lun ≤ 7
  pub some_blocks : 1 ≤ u.blocks
  pub blocks : u.blocks ≤ 4096
  pub some_depth : 1 ≤ u.depth
  pub depth : u.depth ≤ most_depth version
  pub disconnects : u.disconnects ≤ 8
  pub refusals : u.refusals ≤ 8

-- a unit in range that isn't both absent and rogue
pub record IsUnit (version : ℕ) (u : Unit) : Type 0 where
  pub in_range : IsInRange version u
  pub not_both : u.absent ≡ true → u.rogue ≡ false

-- two units of one target have two LUNs, and are equally absent and equally rogue
pub record Agree (a b : Unit) : Type 0 where
  pub lun : a.target ≡ b.target → a.lun ≡ b.lun → ⊥
  pub absent : a.target ≡ b.target → a.absent ≡ b.absent
  pub rogue : a.target ≡ b.target → a.rogue ≡ b.rogue

-- the sum of the units' depths
abbrev pub depths : List Unit → ℕ
depths us = sum_by (λ (u : Unit). u.depth) us

-- what a rig keeps: of its two versions, 1 to 16 units that agree, and limits in range
pub record IsRig (version : ℕ) (units : List Unit) (retries step_limit : ℕ) : Type 0 where
  pub first_version : 1 ≤ version
  pub last_version : version ≤ 2
  pub some_units : 1 ≤ length units
  pub few_units : length units ≤ 16
  pub in_range : All (IsUnit version) units
  pub agree : AllPairs Agree units
  pub all_depths : depths units ≤ 256
  pub few_retries : retries ≤ 8
  pub some_steps : 1 ≤ step_limit
  pub few_steps : step_limit ≤ 4194304
