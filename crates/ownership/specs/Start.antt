-- START and RING of the script: the block at FRONT, and the one in the next start slot (own).
use Rattle.std.specs.Prelude.{◌≡◌, ℕ, ◌+◌, ◌<◌, false}
use Rattle.bench_words.specs.Bytes.{IsBytes}
use Rattle.bench_words.specs.Memory.{word_at}
use Rattle.host_map.specs.declared.TheConstants.{FRONT, RINGP}
use Rattle.cmd_block.specs.Block.{field_of}
use Rattle.cmd_block.specs.declared.Field.TheVariants.{Start}
use Rattle.chip_regs.specs.Registers.{is_stopped}
use Rattle.chip_step.specs.Event.{Event}
use Rattle.chip_step.specs.Chip.{Chip}
use Rattle.chip_step.specs.Step.{ChipStep}
use Rattle.chip_step.specs.declared.outcome.StepEnd.{StepEnd}
use Rattle.ownership.specs.Standing.{StandsAt}
use Rattle.ownership.specs.Words.{IsHead}

-- the chip runs on at the address in START of the block that FRONT names, with DSA at this block
pub record EntersBlock {B : Type 0} (block : ℕ) (old new : Chip B) : Type 0 where
  pub memory : new.memory ≡ old.memory
  pub bus : new.bus ≡ old.bus
  pub running : is_stopped new.regs ≡ false
  pub dsa : new.regs.dsa ≡ block
  pub dsp : new.regs.dsp ≡ field_of old.memory block Start

-- four steps from 0x000 on come there, and SIGP is clear
abbrev pub EntersFront : {B : Type 0} → (B → Event → B → Type 0) → Type 0
EntersFront {B} moves =
    (version : ℕ) (chip : ℕ → Chip B) (word : ℕ → ℕ) (end : ℕ → StepEnd) → StandsAt version 0 (chip 0) → IsBytes (chip 0).memory
    → IsHead (word_at (chip 0).memory FRONT) → ((i : ℕ) → i < 4 → ChipStep moves (word i) (chip i) (end i) (chip (i + 1)))
    → EntersBlock (word_at (chip 0).memory FRONT) (chip 0) (chip 4) × ((chip 4).regs.sigp ≡ false)

-- five steps from 0x020 on come to the block in the slot that RINGP names, with SCRATCHB at the next slot
abbrev pub EntersRing : {B : Type 0} → (B → Event → B → Type 0) → Type 0
EntersRing {B} moves =
    (version slot block : ℕ) (chip : ℕ → Chip B) (word : ℕ → ℕ) (end : ℕ → StepEnd) → StandsAt version 4 (chip 0) → IsBytes (chip 0).memory
    → slot ≡ word_at (chip 0).memory RINGP → block ≡ word_at (chip 0).memory slot → IsHead slot → IsHead block
    → ((i : ℕ) → i < 5 → ChipStep moves (word i) (chip i) (end i) (chip (i + 1)))
    → EntersBlock block (chip 0) (chip 5) × ((chip 5).regs.scratchb ≡ word_at (chip 0).memory (slot + 4))
