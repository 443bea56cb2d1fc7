-- What keeps the chains in memory (own).
use Rattle.std.specs.Prelude.{ℕ, ◌≤◌, List, length}
use Rattle.host_map.specs.Regions.{Chains}
use Rattle.host_map.specs.Writes.{Kept}
use Rattle.rig_types.specs.declared.rig.Unit.{Unit}
use Rattle.rig_chains.specs.Chains.{IsLaid}

-- memory holds the chains of a rig as long as the words of their region are as before
abbrev pub KeepsChains : Type 0
KeepsChains = (old new : ℕ → ℕ) (us : List Unit) → length us ≤ 16 → Kept Chains old new → IsLaid old us → IsLaid new us
