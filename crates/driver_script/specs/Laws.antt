-- Memory that holds the script (own).
use Rattle.std.specs.Prelude.{ℕ, ◌+◌, ◌*◌, ◌<◌}
use Rattle.scripts_ops.specs.Table.{Spelled}
use Rattle.host_map.specs.Regions.{Script}
use Rattle.host_map.specs.Writes.{Kept}
use Rattle.driver_script.specs.Script.{instruction, IsLoaded}

-- it spells instruction k at 8k
abbrev pub SpellsScript : Type 0
SpellsScript = (view : ℕ → ℕ) (k version w2 : ℕ) → IsLoaded view version → k < 151 → Spelled (view (8 * k)) (view (8 * k + 4)) w2 (instruction k version)

-- it holds the script as long as the words of the script's region are as before
abbrev pub KeepsScript : Type 0
KeepsScript = (old new : ℕ → ℕ) (version : ℕ) → Kept Script old new → IsLoaded old version → IsLoaded new version
