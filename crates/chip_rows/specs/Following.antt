-- A step over one bus as a step over another.
use Rattle.std.specs.Prelude.{◌≡◌, ℕ}
use Rattle.chip_step.specs.Event.{Event}
use Rattle.chip_step.specs.Chip.{Chip, state}
use Rattle.chip_step.specs.Step.{ChipStep}
use Rattle.chip_step.specs.declared.outcome.StepEnd.{StepEnd}

-- Where states of two buses are related, each call of the first is one of the second, with the same answer, and the
-- states after it are related. A call that changes nothing of the first changes nothing of the second.
abbrev pub Follows : {A B : Type 0} → (A → Event → A → Type 0) → (B → Event → B → Type 0) → (A → B → Type 0) → Type 0
Follows {A} {B} first second related =
    (x : A) (u : B) (event : Event) (y : A) → related x u → first x event y
    → (v : B) × second u event v × related y v × (y ≡ x → v ≡ u)

-- the chip with its memory over another bus
abbrev pub over : {A B : Type 0} → B → Chip A → Chip B
over bus chip = state chip.memory chip.regs bus

-- each step over the first bus is one over the second: the memory, the registers and the end are the same
abbrev pub StepsFollow : {A B : Type 0} → (A → Event → A → Type 0) → (B → Event → B → Type 0) → (A → B → Type 0) → Type 0
StepsFollow {A} {B} first second related =
    (word : ℕ) (old : Chip A) (u : B) (end : StepEnd) (new : Chip A) → related old.bus u → ChipStep first word old end new
    → (v : B) × ChipStep second word (over u old) end (over v new) × related new.bus v
