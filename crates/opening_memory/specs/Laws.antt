-- What memory says at the opening, by the names of its words, and that there is such a memory (own).
use Rattle.std.specs.Prelude.{◌≡◌, ℕ, ◌+◌, ◌%◌, ◌<◌, ◌≤◌, ◌⊎◌, List, ◌++◌, length}
use Rattle.bench_words.specs.Memory.{word_at, IsZero}
use Rattle.bench_words.specs.Views.{Wrote, WroteWithin}
use Rattle.host_map.specs.declared.TheConstants.{FRONT, RINGP, DONEP, ABORT_TAG, OVER_ADDRESS, ENDED_STATE, CUT_STATE, NO_TARGET_STATE, OPEN_ADDRESS, BADTASK_ADDRESS, FRONT_IDLE_ADDRESS, IDLE, NOTASK, FRONT_IDLE, JOB, START_RING, DONE_RING, BLOCKS}
use Rattle.host_map.specs.Places.{start_slot, done_slot, tag_entry}
use Rattle.host_map.specs.Regions.{FixedBlocks}
use Rattle.host_map.specs.Writes.{Kept}
use Rattle.cmd_block.specs.declared.TheConstants.{MESSAGE, ENDED, CUT, NO_TARGET}
use Rattle.cmd_block.specs.declared.Field.TheVariants.{Start, Restart, Sel, Gate, MsgCount, MsgAt}
use Rattle.cmd_block.specs.Block.{offset}
use Rattle.driver_script.specs.Script.{label_of, laid, IsLoaded}
use Rattle.driver_script.specs.declared.labels.Name.TheVariants as label
use Rattle.rig_types.specs.declared.rig.Unit.{Unit}
use Rattle.rig_chains.specs.Chains.{with_chains, IsLaid}
use Rattle.opening_memory.specs.Tables.{written}
use Rattle.opening_memory.specs.Opening.{script_table, chain_table, opening_table, IsOpening}

-- the constant words, in memory that is seen by words
pub record HasConstants (view : ℕ → ℕ) : Type 0 where
  pub abort_tag : view ABORT_TAG ≡ 0x0D
  pub over : view OVER_ADDRESS ≡ label_of label.Over
  pub ended : view ENDED_STATE ≡ ENDED
  pub cut : view CUT_STATE ≡ CUT
  pub no_target : view NO_TARGET_STATE ≡ NO_TARGET
  pub open_gate : view OPEN_ADDRESS ≡ label_of label.Open
  pub bad_gate : view BADTASK_ADDRESS ≡ label_of label.Badtask
  pub front_idle : view FRONT_IDLE_ADDRESS ≡ FRONT_IDLE

-- the blocks that no command has
pub record HasFixedBlocks (view : ℕ → ℕ) : Type 0 where
  pub idle : view (IDLE + offset Start) ≡ label_of label.Waitr
  pub no_task : (view (NOTASK + offset Restart) ≡ label_of label.Badtask) × (view (NOTASK + offset Gate) ≡ label_of label.Open)
  pub front_idle : view (FRONT_IDLE + offset Start) ≡ label_of label.Ring
  pub job : view (JOB + offset Start) ≡ label_of label.Resetjob
  pub job_message : (view (JOB + offset MsgCount) ≡ 1) × (view (JOB + offset MsgAt) ≡ JOB + MESSAGE) × (view (JOB + MESSAGE) ≡ 0x0C)

-- a ring whose use n takes this slot: all its slots are idle, and linked
pub record IsEmptyRing (view : ℕ → ℕ) (slot_of : ℕ → ℕ) : Type 0 where
  pub idle : (n : ℕ) → view (slot_of n) ≡ IDLE
  pub next : (n : ℕ) → view (slot_of n + 4) ≡ slot_of (n + 1)

-- memory at the opening by its names
pub record IsOpened (m : List ℕ) (version : ℕ) (us : List Unit) : Type 0 where
  pub script : IsLoaded (word_at m) version
  pub chains : IsLaid (word_at m) us
  pub constants : HasConstants (word_at m)
  pub fixed : HasFixedBlocks (word_at m)
  pub front : word_at m FRONT ≡ FRONT_IDLE
  pub ringp : word_at m RINGP ≡ START_RING
  pub donep : word_at m DONEP ≡ DONE_RING
  pub start : IsEmptyRing (word_at m) start_slot
  pub done : IsEmptyRing (word_at m) done_slot
  pub tags : (u g : ℕ) → u < 16 → g < 256 → word_at m (tag_entry u g) ≡ NOTASK
  pub rest : (x : ℕ) → x % 4 ≡ 0 → BLOCKS ≤ x → x + 4 ≤ 0x400000 → word_at m x ≡ 0

-- ---- laws

-- the words of memory at the opening, by their names
abbrev pub SaysNames : Type 0
SaysNames = (m : List ℕ) (version : ℕ) (us : List Unit) → length us ≤ 16 → IsOpening m version us → IsOpened m version us

-- memory of 4 MiB that was 0 is memory at the opening once the table's words are written
abbrev pub IsWritten : Type 0
IsWritten = (m : List ℕ) (version : ℕ) (us : List Unit) → length us ≤ 16 → IsZero m 0x400000 → IsOpening (written m (opening_table version us)) version us

-- there is such a memory for each version and all units
abbrev pub Exists : Type 0
Exists = (version : ℕ) (us : List Unit) → length us ≤ 16 → (m : List ℕ) × IsOpening m version us

-- the calls that lay the script and the chains write their parts of the table, and parts are written one after another
pub record WritesParts : Type 0 where
  pub script : (m : List ℕ) (version : ℕ) → laid m version 302 ≡ written m (script_table version)
  pub chains : (m : List ℕ) (us : List Unit) → with_chains m us ≡ written m (chain_table us)
  pub next : (m : List ℕ) (ps qs : List (ℕ × ℕ)) → written m (ps ++ qs) ≡ written (written m ps) qs

-- a write below or behind the constants leaves them: so each of the words that driver and script change
abbrev pub KeepsConstants : Type 0
KeepsConstants = (old new : ℕ → ℕ) (low high : ℕ) → (high ≤ ABORT_TAG) ⊎ (FRONT_IDLE_ADDRESS + 4 ≤ low) → WroteWithin old new low high
    → HasConstants old → HasConstants new

-- the fixed blocks stay where their region stays, and where the target of the job is written
pub record KeepsFixedBlocks : Type 0 where
  pub region : (old new : ℕ → ℕ) → Kept FixedBlocks old new → HasFixedBlocks old → HasFixedBlocks new
  pub target : (old new : ℕ → ℕ) (value : ℕ) → Wrote old new (JOB + offset Sel) value → HasFixedBlocks old → HasFixedBlocks new
