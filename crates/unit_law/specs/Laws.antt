-- Laws of logs.
use Rattle.std.specs.Prelude.{◌≡◌, ℕ, ◌+◌, ◌-◌, ◌/◌, ◌<◌, ◌≤◌, Bool, List, [], ◌∷◌, ◌++◌, length, Some, ◌⊎◌}
use Rattle.scsi_words.specs.declared.statuses.kinds.Status.TheVariants.{Good, Check}
use Rattle.cdb_codec.specs.declared.commands.Cdb.TheVariants.{Write}
use Rattle.cdb_codec.specs.Forms.{need_of}
use Rattle.plain_lun.specs.Unit.{UnitState, blocks_of}
use Rattle.plain_lun.specs.Performing.{Answered, blocks_at}
use Rattle.plain_lun.specs.Losing.{dropped}
use Rattle.unit_law.specs.declared.entry.LogEntry.{LogEntry}
use Rattle.unit_law.specs.Request.{RequestData, command}
use Rattle.unit_law.specs.Log.{run_log, entered, tally, noted}

-- a log one entry longer runs as the shorter one and then this entry
abbrev pub RunsOn : Type 0
RunsOn = (requests : ℕ → RequestData) (u : UnitState) (log : List LogEntry) (e : LogEntry) → run_log requests u (log ++ e ∷ []) ≡ entered requests (run_log requests u log) e

abbrev pub CountsOn : Type 0
CountsOn = (t : ℕ) (log : List LogEntry) (e : LogEntry) → tally t (log ++ e ∷ []) ≡ noted t (tally t log) e

-- every answer is GOOD or CHECK CONDITION
abbrev pub AnswersEndWell : Type 0
AnswersEndWell = (requests : ℕ → RequestData) (u : UnitState) (log : List LogEntry) (t : ℕ) (a : Answered) → (run_log requests u log).answers t ≡ Some a
    → (a.status ≡ Good) ⊎ (a.status ≡ Check)

-- data are no longer than the need
abbrev pub DataWithinNeed : Type 0
DataWithinNeed = (requests : ℕ → RequestData) (u : UnitState) (log : List LogEntry) (t : ℕ) (a : Answered) → (run_log requests u log).answers t ≡ Some a
    → length a.bytes ≤ (need_of (command (requests t))).bytes

-- block n of the unit after a write at this address was dropped, which had received these bytes
pub record KeepsBlocks (u after : UnitState) (lba : ℕ) (bytes : List ℕ) (n : ℕ) : Type 0 where
  pub before : n < lba → blocks_at after.disk n 1 ≡ blocks_at u.disk n 1
  pub stored : lba ≤ n → n < lba + length bytes / 512 → blocks_at after.disk n 1 ≡ blocks_at bytes (n - lba) 1
  pub behind : lba + length bytes / 512 ≤ n → blocks_at after.disk n 1 ≡ blocks_at u.disk n 1

-- a dropped write stores the whole blocks of what it received, and every other block stays
abbrev pub DropsStoreBlocks : Type 0
DropsStoreBlocks = (u : UnitState) (lba blocks : ℕ) (six : Bool) (bytes : List ℕ) (n : ℕ) → lba + length bytes / 512 ≤ blocks_of u → n < blocks_of u
    → KeepsBlocks u (dropped u (Write lba blocks six) bytes) lba bytes n
