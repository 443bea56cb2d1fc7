-- What readers of the world tell (own).
use Rattle.std.specs.Prelude.{ℕ, ◌*◌, List, [], take, drop, Option, Some, None}
use Rattle.target_law.specs.Target.{LogicalUnit}
use Rattle.world_law.specs.declared.reply.Stop.{Stop}
use Rattle.world_law.specs.declared.reply.Stop.TheVariants.{Run}

-- where the chip fetches next, while no stop waits
abbrev pub next_fetch : Stop → (dsp : ℕ) → Option ℕ
next_fetch Run dsp = Some dsp
next_fetch _ dsp = None

-- the bytes of a unit's disk, none where there is no unit
abbrev pub disk_of : Option LogicalUnit → List ℕ
disk_of None = []
disk_of (Some u) = u.plain.disk

-- a block of 512 bytes
abbrev pub block_at : (disk : List ℕ) → (block : ℕ) → List ℕ
block_at disk block = take 512 (drop (512 * block) disk)
