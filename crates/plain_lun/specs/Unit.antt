-- A logical unit by itself: what it holds, and its opening. Sources: the sense is that of SCSI-2 8.2.14; blocks of 512 bytes and the
-- patterns are own.
use Rattle.std.specs.Prelude.{ℕ, ◌+◌, ◌*◌, ◌/◌, ◌%◌, Bool, false, List, length, map, Option, None}
use Rattle.std.specs.List.{range_with_len}
use Rattle.rig_types.specs.declared.rig.Pattern.{Pattern}
use Rattle.rig_types.specs.declared.rig.Pattern.TheVariants.{Zero, Count}
use Rattle.plain_lun.specs.declared.sense.SenseCode.{SenseCode}

-- a plain unit: the bytes of its disk, an optional sense, and whether its attention is set
pub record UnitState : Type 0 where
  pub disk : List ℕ
  pub sense : Option SenseCode
  pub attention : Bool

-- the number of its blocks, which have 512 bytes
abbrev pub blocks_of : UnitState → ℕ
blocks_of u = length u.disk / 512

-- byte i of block b
abbrev pub pattern_byte : Pattern → ℕ → ℕ → ℕ
pattern_byte Zero b i = 0
pattern_byte Count b i = (b + i) % 256

-- so many bytes of the pattern
abbrev pub filled_disk : Pattern → ℕ → List ℕ
filled_disk pattern n = map (λ k. pattern_byte pattern (k / 512) (k % 512)) (range_with_len 0 n)

-- a unit as it is opened: so many blocks of the pattern, no sense, and (own) no attention
abbrev pub opened : ℕ → Pattern → UnitState
opened blocks pattern = record { disk = filled_disk pattern (512 * blocks); sense = None; attention = false }
