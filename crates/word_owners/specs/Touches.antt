-- Which bytes of the buffer region and of sense areas a step of the chip reads or writes.
use Rattle.std.specs.Prelude.{◌≡◌, ◌⊎◌, ℕ, ◌+◌, ◌<◌, ◌≤◌, is_some, true, List, Some, None}
use Rattle.host_map.specs.declared.TheConstants.{BUFFERS}
use Rattle.host_map.specs.Places.{IsCommandBlock}
use Rattle.cmd_block.specs.declared.TheConstants.{SENSE}
use Rattle.phase_fix.specs.Moves.{move_at}
use Rattle.scripts_ops.specs.declared.values.Op.{Op}
use Rattle.chip_step.specs.Step.{IsAt}
use Rattle.chip_rows.specs.Touched.{IsIn, touched}
use Rattle.world_law.specs.ChipSteps.{RunsChip, chip_of}
use Rattle.world_law.specs.Opening.{opened}
use Rattle.world_law.specs.Runs.{Moment, IsRun, last}
use Rattle.world_law.specs.World.{BenchSetting, IsBenchSetting, World}
use Rattle.world_law.specs.declared.reply.Reply.{Reply}
use Rattle.world_law.specs.declared.reply.Stop.TheVariants.{Run}
use Rattle.word_owners.specs.Tickets.{tickets_of, block_of, target_of, IsLive}
use Rattle.word_owners.specs.Buffers.{IsOwn}
use Rattle.word_owners.specs.Worlds.{HasBytes}

-- one of the 18 bytes of the sense area of a command block
pub record IsSenseByte (x : ℕ) : Type 0 where
  pub block : ℕ
  pub is : IsCommandBlock block
  pub from : block + SENSE ≤ x
  pub below : x < block + SENSE + 18

abbrev pub IsDataByte : ℕ → Type 0
IsDataByte x = (BUFFERS ≤ x) ⊎ IsSenseByte x

-- The chip stands at a data move, DSA is the block of a live ticket, the byte is one of what that ticket moves, and no other target than its unit's is
-- connected.
pub record IsMoved (w : World) (x : ℕ) : Type 0 where
  pub move : is_some (move_at w.regs.dsp) ≡ true
  pub number : ℕ
  pub live : IsLive ((tickets_of w.desk).stage number)
  pub dsa : w.regs.dsa ≡ block_of (tickets_of w.desk) number
  pub own : IsOwn ((tickets_of w.desk).fixed number) x
  pub linked : (w.bus.connected ≡ Some (target_of (tickets_of w.desk) number)) ⊎ (w.bus.connected ≡ None)

-- what the instruction at DSP reads or writes of such bytes is moved so, in every world of every run
abbrev pub DataAreMoved : Type 0
DataAreMoved =
    (g : BenchSetting) → IsBenchSetting g → HasBytes g → (moments : List Moment) → IsRun g (opened g) moments → (new : World) (word : ℕ) (answer : Reply) (op : Op) (x : ℕ) → (last (opened g) moments).stop ≡ Run
    → RunsChip (last (opened g) moments) word answer new → IsAt (chip_of (last (opened g) moments)) op → IsIn (touched op (chip_of (last (opened g) moments)) new.regs.dbc) x → IsDataByte x
    → IsMoved (last (opened g) moments) x
