-- A step at words that an instruction spells is that instruction, for the crates above.
use Rattle.std.proofs.Common.{◌≡◌, ℕ, ◌+◌, ◌/◌, ◌%◌, true, false, Some}
use Rattle.bench_words.specs.Memory.{word_at}
use Rattle.scripts_ops.specs.Table.{Spelled}
use Rattle.scripts_ops.proofs.OneRow.{guess_of_spelled}
use Rattle.scripts_ops.specs.Guess.{guessed}
use Rattle.scripts_ops.specs.declared.values.Op.{Op}
use Rattle.chip_regs.specs.Registers.{is_stopped}
use Rattle.chip_step.specs.Event.{Event}
use Rattle.chip_step.specs.Chip.{Chip}
use Rattle.chip_step.specs.Instructions.{Does}
use Rattle.chip_step.specs.Step.{ChipStep, idle, unfetched, unspelled, does, IsAt, after_fetch, third_at, can_fetch}
use Rattle.chip_step.specs.declared.outcome.StepEnd.{StepEnd}

-- words spell one instruction
pub one_spelling : (w0 w1 w2 : ℕ) (a b : Op) → Spelled w0 w1 w2 a → Spelled w0 w1 w2 b → a ≡ b
one_spelling w0 w1 w2 a b x y =
    let e : guessed (w0 / 16777216) (w0 % 16777216) w1 w2 ≡ Some a = guess_of_spelled w0 w1 w2 a x in
    let f : guessed (w0 / 16777216) (w0 % 16777216) w1 w2 ≡ Some b = guess_of_spelled w0 w1 w2 b y in
    cc

-- A chip that runs, stands at a multiple of 4 in memory and has the words of an instruction there does what its row says.
pub ChipStep-does : {B : Type 0} (moves : B → Event → B → Type 0) (word : ℕ) (old : Chip B) (end : StepEnd) (new : Chip B) (op : Op) →
    is_stopped old.regs ≡ false → can_fetch old.memory old.regs ≡ true → IsAt old op → ChipStep moves word old end new →
    Does moves word op old (after_fetch old) end new
ChipStep-does moves word old end new op r f at (idle s e q) = absurd cc
ChipStep-does moves word old end new op r f at (unfetched s c t) = absurd cc
ChipStep-does moves word old end new op r f at (unspelled s c n t) = absurd (n op at)
ChipStep-does moves word old end new op r f at (does s c o there d) =
    let same : o ≡ op = one_spelling (word_at old.memory old.regs.dsp) (word_at old.memory (old.regs.dsp + 4)) (third_at old.memory old.regs) o op there at in
    rw same at d
