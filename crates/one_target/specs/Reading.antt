-- One READ(10) on the bus of one target: each call has one answer, and the unit ends as it does alone.
use Rattle.std.specs.Prelude.{◌≡◌, ℕ, ◌<◌, ◌≤◌, ◌^◌, false, List, [], ◌∷◌, Some}
use Rattle.scsi_words.specs.declared.statuses.kinds.Status.TheVariants.{Good, Check}
use Rattle.scsi_words.specs.Statuses.{status_code}
use Rattle.cdb_codec.specs.declared.commands.Cdb.TheVariants.{Read}
use Rattle.plain_lun.specs.Unit.{UnitState}
use Rattle.plain_lun.specs.Performing.{perform, blocks_at}
use Rattle.unit_law.specs.declared.entry.LogEntry.{LogEntry}
use Rattle.unit_law.specs.declared.entry.LogEntry.TheVariants.{Look, End}
use Rattle.target_law.specs.Target.{LogicalUnit, BusFree, unit_at}
use Rattle.straight_run.specs.Reading.{Answers, read_calls, status_calls}
use Rattle.one_target.specs.Bus.{BusState, moves}
use Rattle.one_target.specs.Opening.{one_plain, IsOpened}

-- the unit after it has read one block by itself
abbrev pub after_read : ℕ → UnitState
after_read lba = (perform one_plain (Read lba 1 false) []).unit

-- the bus is free, and the unit is this one with this log
pub record Ended (plain : UnitState) (log : List LogEntry) (b : BusState) : Type 0 where
  pub free : b.target.link ≡ BusFree
  pub unit : LogicalUnit
  pub unit_is : unit_at b.target.units 0 ≡ Some unit
  pub plain_is : unit.plain ≡ plain
  pub log_is : unit.log ≡ log

-- the bytes of the block, and the log where the unit has it
abbrev pub block_at : ℕ → List ℕ
block_at lba = blocks_at one_plain.disk lba 1

abbrev pub read_log : List LogEntry
read_log = Look 0 ∷ End 0 ∷ []

abbrev pub refused_log : List LogEntry
refused_log = End 0 ∷ []

-- a block of the unit is read with GOOD; the address of any other ends with CHECK CONDITION and no data
abbrev pub Reads : Type 0
Reads = (lba : ℕ) → lba < 64 → (b : BusState) → IsOpened b → Answers moves (read_calls lba (block_at lba) (status_code Good)) (Ended (after_read lba) read_log) b

abbrev pub Checks : Type 0
Checks = (lba : ℕ) → 64 ≤ lba → lba < 2 ^ 32 → (b : BusState) → IsOpened b → Answers moves (status_calls lba (status_code Check)) (Ended (after_read lba) refused_log) b
