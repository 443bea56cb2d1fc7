-- One step of the chip.
use Rattle.std.specs.Prelude.{◌≡◌, ℕ, ◌+◌, ◌/◌, ◌%◌, Bool, true, false, not, ◌&&◌, ◌⊎◌, nat_eq, nat_le, if◌then◌else◌, List, length}
use Rattle.bench_words.specs.Memory.{word_at}
use Rattle.scripts_ops.specs.Table.{Spelled}
use Rattle.scripts_ops.specs.declared.values.Op.{Op}
use Rattle.scripts_ops.specs.declared.values.Op.TheVariants.{WaitReselect}
use Rattle.chip_regs.specs.Registers.{is_stopped}
use Rattle.chip_regs.specs.declared.registers.Regs.{Regs}
use Rattle.chip_regs.specs.declared.registers.Cause.TheVariants.{Iid, Bf}
use Rattle.chip_step.specs.Event.{Event}
use Rattle.chip_step.specs.Chip.{Chip, Stops}
use Rattle.chip_step.specs.Connection.{IsUncalled}
use Rattle.chip_step.specs.Instructions.{Does}
use Rattle.chip_step.specs.declared.outcome.StepEnd.{StepEnd}
use Rattle.chip_step.specs.declared.outcome.StepEnd.TheVariants.{Idle}

-- a first word whose instruction has a third: MOVE MEMORY, whose count isn't 0
abbrev pub has_third : ℕ → Bool
has_third w0 = nat_eq (w0 / 16777216) 0xc0 && not (nat_eq (w0 % 16777216) 0)

-- how many bytes are fetched
abbrev pub len_of : ℕ → ℕ
len_of w0 = if has_third w0 then 12 else 8

-- the words lie at DSP, which is a multiple of 4
abbrev pub can_fetch : List ℕ → Regs → Bool
can_fetch memory r =
    nat_eq (r.dsp % 4) 0 && nat_le (r.dsp + 8) (length memory) && nat_le (r.dsp + len_of (word_at memory r.dsp)) (length memory)

abbrev pub third_at : List ℕ → Regs → ℕ
third_at memory r = if has_third (word_at memory r.dsp) then word_at memory (r.dsp + 8) else 0

-- the top byte goes to DCMD, bits 23 to 0 to DBC, the second word to DSPS, and DSP is past the words
abbrev pub fetched : ℕ → ℕ → Regs → Regs
fetched w0 w1 r = record r { dcmd = w0 / 16777216; dbc = w0 % 16777216; dsps = w1; dsp = r.dsp + len_of w0 }

abbrev pub after_fetch : {B : Type 0} → Chip B → Chip B
after_fetch old =
    record old { regs = fetched (word_at old.memory old.regs.dsp) (word_at old.memory (old.regs.dsp + 4)) old.regs }

-- the words at DSP spell this instruction
abbrev pub IsAt : {B : Type 0} → Chip B → Op → Type 0
IsAt old op =
    Spelled (word_at old.memory old.regs.dsp) (word_at old.memory (old.regs.dsp + 4)) (third_at old.memory old.regs) op

-- From old a step with this word may end so, in new.
pub data ChipStep {B : Type 0} (moves : B → Event → B → Type 0) (word : ℕ) (old : Chip B) (end : StepEnd) (new : Chip B) : Type 0 where
  -- a chip that is stopped is idle, and nothing changes
  idle : is_stopped old.regs ≡ true → end ≡ Idle → new ≡ old → ChipStep moves word old end new
  -- the fetch leaves memory or isn't at a multiple of 4
  unfetched : is_stopped old.regs ≡ false → can_fetch old.memory old.regs ≡ false → Stops Bf old end new → ChipStep moves word old end new
  -- no row spells the words
  unspelled : is_stopped old.regs ≡ false → can_fetch old.memory old.regs ≡ true → ((op : Op) → IsAt old op → ⊥) → Stops Iid (after_fetch old) end new → ChipStep moves word old end new
  -- a row does
  does : is_stopped old.regs ≡ false → can_fetch old.memory old.regs ≡ true → (op : Op) → IsAt old op → Does moves word op old (after_fetch old) end new → ChipStep moves word old end new

-- WAIT RESELECT, which nobody ends
pub record IsWaiting {B : Type 0} (moves : B → Event → B → Type 0) (word : ℕ) (op : Op) (old : Chip B) : Type 0 where
  pub alternate : ℕ
  pub is : op ≡ WaitReselect alternate
  pub uncalled : IsUncalled moves word old

-- a chip that runs and stands at such an instruction
pub record Awaits {B : Type 0} (moves : B → Event → B → Type 0) (word : ℕ) (old : Chip B) : Type 0 where
  pub running : is_stopped old.regs ≡ false
  pub op : Op
  pub at : IsAt old op
  pub waits : IsWaiting moves word op old

-- where a step is idle
abbrev pub Rests : {B : Type 0} → (B → Event → B → Type 0) → ℕ → Chip B → Type 0
Rests moves word old = (is_stopped old.regs ≡ true) ⊎ Awaits moves word old
