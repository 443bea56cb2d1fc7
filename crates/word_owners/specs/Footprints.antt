-- The footprint of the script: which bytes of memory a step of the chip changes.
use Rattle.std.specs.Prelude.{◌≡◌, ◌≢◌, ◌⊎◌, ℕ, ◌+◌, ◌<◌, ◌≤◌, is_some, true, List, slice_index, Some}
use Rattle.bench_words.specs.Memory.{word_at}
use Rattle.host_map.specs.declared.TheConstants.{FRONT, DONEP, MSGIN, IDLE}
use Rattle.cmd_block.specs.Block.{offset}
use Rattle.cmd_block.specs.declared.Field.TheVariants.{Lastp, Status, Gate}
use Rattle.phase_fix.specs.Moves.{move_at}
use Rattle.world_law.specs.ChipSteps.{RunsChip}
use Rattle.world_law.specs.Opening.{opened}
use Rattle.world_law.specs.Runs.{Moment, IsRun, last}
use Rattle.world_law.specs.World.{BenchSetting, IsBenchSetting, World}
use Rattle.world_law.specs.declared.reply.Reply.{Reply}
use Rattle.world_law.specs.declared.reply.Stop.TheVariants.{Run}
use Rattle.word_owners.specs.Tickets.{tickets_of, block_of, target_of, IsActive}
use Rattle.word_owners.specs.Buffers.{IsOwn}
use Rattle.word_owners.specs.Worlds.{HasBytes}

-- the words FRONT, RINGP, DONEP and CUR, and the byte MSGIN behind them
abbrev pub IsShared : ℕ → Type 0
IsShared x = (FRONT ≤ x) × (x ≤ MSGIN)

-- the block in the done slot that DONEP names, which is idle: so no entry is written over
abbrev pub IsDoneSlot : World → ℕ → Type 0
IsDoneSlot w x = (word_at w.memory DONEP ≤ x) × (x < word_at w.memory DONEP + 4) × (word_at w.memory (word_at w.memory DONEP) ≡ IDLE)

-- LASTP, SAVEP, STATE and the byte of STATUS, which lie one behind the other, or GATE
abbrev pub IsWritable : (block x : ℕ) → Type 0
IsWritable block x = ((block + offset Lastp ≤ x) × (x ≤ block + offset Status)) ⊎ ((block + offset Gate ≤ x) × (x < block + offset Gate + 4))

-- of the block of a ticket that is with the chip, which is at DSA
pub record IsOfBlock (w : World) (x : ℕ) : Type 0 where
  pub number : ℕ
  pub active : IsActive ((tickets_of w.desk).stage number)
  pub dsa : w.regs.dsa ≡ block_of (tickets_of w.desk) number
  pub field : IsWritable w.regs.dsa x

abbrev pub IsScripts : World → ℕ → Type 0
IsScripts w x = IsShared x ⊎ (IsDoneSlot w x ⊎ IsOfBlock w x)

-- or a byte of what such a ticket moves, at a data move, while its unit's target is connected
pub record IsDatum (w : World) (x : ℕ) : Type 0 where
  pub move : is_some (move_at w.regs.dsp) ≡ true
  pub number : ℕ
  pub active : IsActive ((tickets_of w.desk).stage number)
  pub dsa : w.regs.dsa ≡ block_of (tickets_of w.desk) number
  pub own : IsOwn ((tickets_of w.desk).fixed number) x
  pub target : w.bus.connected ≡ Some (target_of (tickets_of w.desk) number)

-- a step of a chip that runs changes nothing else, in every world of every run
abbrev pub ScriptWritesOnly : Type 0
ScriptWritesOnly =
    (g : BenchSetting) → IsBenchSetting g → HasBytes g → (moments : List Moment) → IsRun g (opened g) moments → (new : World) (word : ℕ) (answer : Reply) (x : ℕ) → (last (opened g) moments).stop ≡ Run
    → RunsChip (last (opened g) moments) word answer new → slice_index new.memory x ≢ slice_index (last (opened g) moments).memory x
    → IsScripts (last (opened g) moments) x ⊎ IsDatum (last (opened g) moments) x
