-- Where the chains lead with a byte in SFBR (own).
use Rattle.std.specs.Prelude.{◌≡◌, ℕ, ◌-◌, ◌<◌, ◌++◌, Bool, true, false, not, nat_eq, if◌then◌else◌, List, [], ◌∷◌, length, Option, Some, None, slice_index_or, bit_and, position}
use Rattle.std.specs.List.{All, AllPairs}
use Rattle.scripts_ops.specs.declared.values.Op.{Op}
use Rattle.scripts_ops.specs.declared.values.Op.TheVariants.{Jump, Int}
use Rattle.scripts_ops.specs.declared.values.Condition.{Condition}
use Rattle.scripts_ops.specs.declared.values.Condition.TheVariants.{Always, Phase, Byte}
use Rattle.host_map.specs.Places.{target_chain, unit_chain}
use Rattle.rig_types.specs.Ranges.{IsUnit, Agree}
use Rattle.rig_types.specs.declared.rig.Unit.{Unit}
use Rattle.rig_chains.specs.Chains.{has_target, is_at, target_ops, lun_jumps}

-- whether a condition on SFBR holds with this byte in it: bits that are set in the mask don't count
abbrev pub takes : Condition → ℕ → Bool
takes Always byte = true
takes (Phase when negated code) byte = false
takes (Byte false mask value) byte = nat_eq (bit_and byte (255 - mask)) value
takes (Byte true mask value) byte = not (nat_eq (bit_and byte (255 - mask)) value)

-- how a run of jumps and interrupts ends: the chip goes on at an address, or stops with a vector
pub data Exit : Type 0 where
  GoesTo : ℕ → Exit
  StopsWith : ℕ → Exit

-- where they lead with a byte in SFBR: the first that takes it counts; nowhere, where another instruction comes before
abbrev pub leads : List Op → ℕ → Option Exit
leads [] byte = None
leads (Jump on address ∷ ops) byte = if takes on byte then Some (GoesTo address) else leads ops byte
leads (Int on vector ∷ ops) byte = if takes on byte then Some (StopsWith vector) else leads ops byte
leads (op ∷ ops) byte = None

-- the exit with a target in SFBR, and the one behind IDENTIFY with the number of a unit that was found by its LUN
abbrev pub target_exit : List Unit → ℕ → Exit
target_exit us t = if has_target us t then GoesTo (target_chain t) else StopsWith 0x0A

abbrev pub unit_exit : Option ℕ → Exit
unit_exit (Some u) = GoesTo (unit_chain u)
unit_exit None = StopsWith 9

-- ---- laws

-- each of the eight targets that a bus may name leads to its chain, and without a unit to vector 0x0A
abbrev pub FindsTargets : Type 0
FindsTargets = (us : List Unit) (t : ℕ) → t < 8 → leads (target_ops us) t ≡ Some (target_exit us t)

-- no unit of a rig has target 7, which leads to vector 0x0A
abbrev pub LeavesOutSeven : Type 0
LeavesOutSeven = (version : ℕ) (us : List Unit) → All (IsUnit version) us → leads (target_ops us) 7 ≡ Some (StopsWith 0x0A)

-- each LUN leads to the chain of the unit with this target and LUN, and without one to vector 9
abbrev pub FindsLuns : Type 0
FindsLuns = (us : List Unit) (target lun : ℕ) → lun < 8
    → leads (lun_jumps us target ++ Int Always 9 ∷ []) lun ≡ Some (unit_exit (position (is_at target lun) us))

-- where units have different targets or LUNs, the unit with the target and LUN of a unit is this unit
abbrev pub FindsItself : Type 0
FindsItself = (us : List Unit) (u : ℕ) (d : Unit) → AllPairs Agree us → u < length us
    → position (is_at (slice_index_or us u d).target (slice_index_or us u d).lun) us ≡ Some u
